-- What the laws say of searches, of equal jobs and of texts read again.
pub mod EqualJobs
pub mod ReadAgain
pub mod SearchLaws
