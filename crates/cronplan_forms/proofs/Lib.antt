pub mod DateSteps
pub mod EscapedTexts
pub mod Events
pub mod FoldedLines
pub mod Frequents
pub mod Gathered
pub mod MonthGrids
pub mod MonthParts
pub mod RunSteps
pub mod TimedLists
pub mod TitleDates
pub mod ToldOnce
pub mod ToldOrder
pub mod UtcClock
pub mod WeekParts
mod ExamplesAnswers
mod ExamplesBesides
mod ExamplesCalendar
mod ExamplesEscapes
mod ExamplesMonths
mod ExamplesWeeks
mod ExamplesWindowRuns
