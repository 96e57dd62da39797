-- Clocks that are given by tables of offsets: which tables are calm, and what their clocks read.
pub mod ExamplesTable
pub mod TableCalm
pub mod TableChanges
pub mod TableCheck
pub mod TableMoments
pub mod TableOffsets
pub mod TableReadings
pub mod TableTests
