-- The laws of its ways.
pub mod FileLaws
pub mod RestLaws
