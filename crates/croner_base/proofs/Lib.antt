pub mod calendar
pub mod clocks
pub mod fields
pub mod tables
pub mod texts
pub mod words
pub mod zones
