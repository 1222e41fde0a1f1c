-- What the judge of a MESH answers.
pub mod Answers
