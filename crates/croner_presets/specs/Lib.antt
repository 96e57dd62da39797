pub mod Parts
pub mod Differences
pub mod Presets
pub mod Views
