-- The slip of a file.
pub mod FileSlips
pub mod Carries
