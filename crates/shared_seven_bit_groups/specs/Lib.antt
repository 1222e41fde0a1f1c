-- What numbers in groups of seven bits are.
pub mod Groups
pub mod Puts
