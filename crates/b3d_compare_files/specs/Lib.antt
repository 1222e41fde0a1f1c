-- The list of two files.
pub mod Files
