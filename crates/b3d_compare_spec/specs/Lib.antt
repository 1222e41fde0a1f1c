-- What differs between two files.
pub mod Words
pub mod Changes
pub mod Differences
pub mod List
pub mod Compare
pub mod Compares
