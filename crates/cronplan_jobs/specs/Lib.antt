pub mod Jobs
pub mod Listed
pub mod Private
