-- Words of private calls. Private contracts alone cite these definitions.
pub mod parser
pub mod search
pub mod crontable
pub mod Until
