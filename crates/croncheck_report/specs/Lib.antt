pub mod Allowed
pub mod FileSeen
pub mod Offsets
pub mod Report
pub mod Settings
pub mod Told
