-- What the judge of a node's own chunks answers.
pub mod Answers
