-- The laws of one edit.
pub mod EditLaws
pub mod SliceLaws
pub mod RestLaws
