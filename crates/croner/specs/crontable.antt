-- Tables of patterns: when they run, and the listing of their runs.
pub mod TableItems
pub mod TableListing
pub mod Tables
