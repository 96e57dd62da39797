pub mod Answers
mod ExamplesCalls
pub mod Explanations
pub mod LineJobs
pub mod Listed
pub mod Started
pub mod Summaries
pub mod Times
pub mod Windows
pub mod Zones
