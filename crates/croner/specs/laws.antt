-- Words of the laws alone.
pub mod Equality
pub mod Neighbours
pub mod Until
pub mod Zones
