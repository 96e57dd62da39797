pub mod Starts
pub mod Views
pub mod Lines
pub mod MadeUp
pub mod Searches
pub mod Listing
pub mod Private
