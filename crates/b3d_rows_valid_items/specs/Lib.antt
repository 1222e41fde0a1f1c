-- What a test of numbers tells.
pub mod Decides
