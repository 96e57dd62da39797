-- What private contracts alone cite.
pub mod Sought
pub mod Multiples
pub mod Later
pub mod Passed
