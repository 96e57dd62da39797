pub mod Examples
pub mod GatheredJobs
pub mod JobListings
pub mod ServedSpans
