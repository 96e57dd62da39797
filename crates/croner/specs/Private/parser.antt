-- Texts, step by step. Private contracts alone cite these definitions.
pub mod Places
pub mod Steps
