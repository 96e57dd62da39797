-- Definitions that private contracts alone cite.
pub mod Gathered
pub mod Placed
