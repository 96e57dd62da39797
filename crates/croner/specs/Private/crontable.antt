-- What the searches of a table's patterns come to together, and what an iterator keeps of them. Private contracts alone cite these definitions.
pub mod Dues
pub mod Kept
pub mod Met
pub mod Room
