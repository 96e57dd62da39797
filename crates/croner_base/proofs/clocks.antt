-- What the clocks of jiff show: civil date-times, and zoned date-times in every zone.
pub mod CivilCalm
pub mod CivilMoments
pub mod Seconds
pub mod ZonedHolds
pub mod ZonedMoments
pub mod ZonedResolved
