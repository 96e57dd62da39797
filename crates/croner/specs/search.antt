-- Runs, and what a search from a moment answers.
pub mod Runs
pub mod PatternJob
pub mod Limit
pub mod Premises
pub mod Refusal
pub mod Searches
