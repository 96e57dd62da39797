-- Descriptions: lists, streaks of values and sentences, as they are written, and the tests of fields in them.
pub mod ExamplesDescriptions
pub mod ListsWritten
pub mod PlainValues
pub mod Sentences
pub mod StreaksWritten
