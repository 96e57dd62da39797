pub mod Changes
pub mod Private
