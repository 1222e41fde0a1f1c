-- What the judge of KEYS and ANIM answers.
pub mod Answers
