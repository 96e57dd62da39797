pub mod Years
pub mod Windows
pub mod ZoneMoment
