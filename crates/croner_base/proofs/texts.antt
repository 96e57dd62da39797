-- Texts that are written: numbers with zeros in front, and excerpts.
pub mod ExcerptLengths
pub mod PaddedNumbers
