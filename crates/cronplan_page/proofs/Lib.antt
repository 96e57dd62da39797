pub mod Steps
pub mod Places
pub mod SpanLengths
pub mod TimedLists
pub mod PageTexts
mod Examples
