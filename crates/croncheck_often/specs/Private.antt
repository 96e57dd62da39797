-- Counts of starts. Private contracts alone cite these definitions.
pub mod Often
