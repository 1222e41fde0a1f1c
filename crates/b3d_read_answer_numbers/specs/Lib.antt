-- The reader's answers.
pub mod Answers
