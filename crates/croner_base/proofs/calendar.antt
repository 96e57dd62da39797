-- Day numbers, dates and wall seconds: their order, their neighbours, and those of jiff's years.
pub mod CalendarPeriods
pub mod Chronology
pub mod CivilSeconds
pub mod DayNumbers
pub mod ExamplesCalendar
pub mod JiffSeconds
pub mod WallSteps
