-- What a walk answers.
-- Where the chunks inside a chunk begin.
pub mod Answers
