-- Words of the steps in which lists and masks are made, and of the search for the next scheduled second. Private contracts alone cite these definitions.
pub mod DayBits
pub mod Lists
pub mod Clones
pub mod Cursor
