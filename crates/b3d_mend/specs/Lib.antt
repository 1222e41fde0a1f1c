-- An accepted file.
pub mod Accepted
