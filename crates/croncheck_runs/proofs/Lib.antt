mod CalmFronts
mod ExamplesClock
mod ExamplesPrevious
pub mod Listings
mod OwnRuns
mod OwnRunsBefore
mod PastClocks
mod PreviousRuns
pub mod Results
mod Skipped
mod Stops
pub mod TableRows
