-- Definitions that private contracts alone cite.
pub mod Exact
pub mod Spacing
pub mod ExactDays
pub mod Appended
