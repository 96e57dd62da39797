pub mod Effect
pub mod Hidden
pub mod Mail
pub mod Presets
pub mod Starred
pub mod Users
pub mod Warnings
