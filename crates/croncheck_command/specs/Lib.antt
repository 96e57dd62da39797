pub mod Problem
pub mod Words
