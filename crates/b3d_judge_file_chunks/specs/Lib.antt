-- What the judge of a file's chunks answers.
pub mod Answers
