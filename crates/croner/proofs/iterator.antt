-- Iterators, call by call, and the listings that they give.
pub mod Faults
pub mod InOrder
pub mod ItemsGiven
pub mod Iterating
pub mod Listings
pub mod ThereAndBack
pub mod Until
