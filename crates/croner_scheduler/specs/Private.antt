-- What private contracts alone cite.
pub mod Turns
pub mod Steps
pub mod Latest
pub mod Places
