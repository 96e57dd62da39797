-- How a component keeps its marks: as rows of words. Private contracts alone cite these definitions.
pub mod Counts
pub mod Differences
pub mod Kept
pub mod Marked
pub mod Masks
pub mod Next
pub mod Rows
pub mod Word
