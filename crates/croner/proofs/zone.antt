-- The zone layer: the order of readings in a calm zone, gaps, the halves of a repeated range, and walks.
pub mod Ahead
pub mod ErrorsKept
pub mod GapSides
pub mod HalfEdges
pub mod SearchLimit
pub mod Walks
pub mod WallSeconds
pub mod WallYears
pub mod ZoneOrder
pub mod Windows
