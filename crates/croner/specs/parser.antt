-- What a text means: the settings of a parser, words, names, the grammar, and what reading answers.
pub mod Settings
pub mod Words
pub mod Cut
pub mod Grammar
pub mod Gives
pub mod Faults
