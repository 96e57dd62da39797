pub mod EarliestFirst
pub mod PlacedJobs
pub mod SpanSides
pub mod StartsThen
pub mod Whole
mod Examples
