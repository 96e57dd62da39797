pub mod civil
pub mod days
pub mod descriptions
pub mod questions
