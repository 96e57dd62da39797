pub mod Writes
pub mod Numbers
pub mod Wording
pub mod English
pub mod Swedish
