-- The zone layer: one walk along the wall clock, the sides of a gap, and the halves of a repeated range. Private contracts alone cite these definitions.
pub mod Schedule
pub mod Wall
pub mod Walk
pub mod Halves
pub mod Gaps
pub mod Held
pub mod Sought
