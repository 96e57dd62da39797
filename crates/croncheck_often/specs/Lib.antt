pub mod Often
pub mod Private
