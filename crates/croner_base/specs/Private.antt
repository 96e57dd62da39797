-- How parts are read, tables checked and marks kept. Private contracts alone cite these definitions.
pub mod Signs
pub mod TableSteps
pub mod words
pub mod ZoneSteps
