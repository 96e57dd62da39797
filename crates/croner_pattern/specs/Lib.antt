-- the words of lower crates that the public clauses cite
pub use Rattle.croner_base.specs.Answers
pub use Rattle.croner_base.specs.Calendar
pub use Rattle.croner_base.specs.Civil
pub use Rattle.croner_base.specs.Field
pub use Rattle.jiff_core.specs.Calendar as Gregorian
pub mod Meaning
pub mod Shapes
pub mod Days
pub mod Schedule
pub mod Directions
pub mod NextSecond
pub mod SearchedYears
pub mod Words
pub mod Questions
pub mod Order
pub mod Written
pub mod Lists
pub mod Description
pub mod Private
