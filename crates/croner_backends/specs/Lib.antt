pub mod AskingMoment
pub mod BoxedMoment
pub mod Narrow
pub mod NarrowMoment
pub mod NarrowHeld
pub mod OwnYears
pub mod TwelveHours
