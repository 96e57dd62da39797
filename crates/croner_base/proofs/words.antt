-- Marks as rows of words.
pub mod Counting
pub mod Differing
pub mod Hashing
pub mod ModifiersInTurn
pub mod PlainRow
pub mod RowPlaces
pub mod StepMasks
pub mod Sums
pub mod TurnedMarks
pub mod WordSearch
