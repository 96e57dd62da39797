pub mod Around
pub mod Windows
pub mod Multiples
pub mod Laters
pub mod Nearer
pub mod Passing
pub mod ListedDates
pub mod ExamplesRuns
