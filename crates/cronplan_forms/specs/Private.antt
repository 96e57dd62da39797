-- Definitions that private contracts alone cite.
pub mod DatedTitles
pub mod Grids
pub mod Steps
