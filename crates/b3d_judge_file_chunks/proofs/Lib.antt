-- The laws of its ways.
pub mod AnswerLaws
pub mod OneLaws
pub mod FileLaws
pub mod RestLaws
