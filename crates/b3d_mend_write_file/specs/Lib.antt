-- The start of a file.
pub mod Starts
