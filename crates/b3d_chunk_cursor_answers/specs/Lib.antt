-- The answers of cursors in 01's numbers.
pub mod Answers
