-- Listings of runs, and iterators over them.
pub mod Faults
pub mod Listing
pub mod IteratorOrder
