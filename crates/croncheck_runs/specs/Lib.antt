pub mod Clock
pub mod Length
pub mod Past
pub mod Previous
pub mod Private
pub mod Runs
