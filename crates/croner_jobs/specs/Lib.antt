pub mod Served
pub mod Dates
pub mod Runs
pub mod NearUtc
pub mod Private
