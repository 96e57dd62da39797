-- The ends of listings and their items. Private contracts alone cite these definitions.
pub mod Ends
pub mod EndsBefore
pub mod Listed
