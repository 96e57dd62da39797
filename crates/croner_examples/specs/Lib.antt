pub mod OwnTime
pub mod Plans
pub mod ZoneRuns
