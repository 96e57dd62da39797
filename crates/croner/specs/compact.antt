-- Jobs in few words.
pub mod WordFields
pub mod YearRuns
pub mod Compact
