-- The laws of its functions.
pub mod FileLaws
