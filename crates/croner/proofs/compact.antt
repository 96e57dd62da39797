-- Jobs in few words: what their words show, and that they are like the patterns of which they were made.
pub mod Alike
pub mod RunCounts
pub mod RunYears
pub mod SameWords
pub mod Shaped
pub mod WeekMarks
pub mod WordMarks
