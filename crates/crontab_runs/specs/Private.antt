-- What private contracts alone cite.
pub mod Nearest
pub mod Known
pub mod Stretches
pub mod Parts
pub mod Due
pub mod Named
pub mod Found
pub mod Steps
pub mod Times
pub mod Onward
pub mod Listings
