-- Tables of patterns: the nearest of several answers, what is kept of them, tables that change, and iterators call by call.
pub mod DueOrder
pub mod KeptRuns
pub mod KnownRuns
pub mod TableChanges
pub mod TableItems
pub mod TableIterating
pub mod TableRuns
pub mod TableSearch
pub mod TableUntil
pub mod TakenRuns
