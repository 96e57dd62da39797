mod Clocks
mod ZoneRuns
