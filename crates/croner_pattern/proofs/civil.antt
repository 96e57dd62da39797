-- Dates, times of day and years, and the nearest scheduled second of the wall clock.
pub mod Ahead
pub mod CivilOrder
pub mod DateSearch
pub mod ExamplesCursor
pub mod FieldBits
pub mod Foremost
pub mod MonthKinds
pub mod Scheduled
pub mod SingleValues
pub mod TimeSearch
pub mod Weekdays
