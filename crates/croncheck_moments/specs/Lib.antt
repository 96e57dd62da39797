pub mod Moment
pub mod Zone
