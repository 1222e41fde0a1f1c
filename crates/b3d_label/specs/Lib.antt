-- What the walk's functions promise.
pub mod Answers
