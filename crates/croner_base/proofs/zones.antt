-- The changes of a zone of jiff: up to its next transition, by its rule, and 400 years on.
pub mod ExamplesZones
pub mod ZoneChanges
pub mod ZonePeriods
pub mod ZoneRepeats
pub mod ZoneStays
pub mod ZoneYears
