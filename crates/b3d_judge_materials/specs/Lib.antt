-- What the judge of brushes answers.
pub mod Answers
