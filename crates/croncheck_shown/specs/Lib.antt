pub mod Ago
pub mod Off
pub mod Patterns
pub mod Reported
pub mod Shown
