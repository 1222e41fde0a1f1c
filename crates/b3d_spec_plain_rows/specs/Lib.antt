-- The rows of a file's tables from its bytes, with no rule.
pub mod Plain
pub mod Flat
pub mod Rows
