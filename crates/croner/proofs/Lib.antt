pub mod CronRuns
pub mod ExamplesJson
pub mod JsonTexts
pub mod Matching
pub mod zone
