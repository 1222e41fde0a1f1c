-- What parts of a scene add up to, and answers that hold it.
pub mod Tally
pub mod Answers
pub mod OnlyKeys
