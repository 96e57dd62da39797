pub mod ZoneRuns
