-- The rows of a mesh from its file's bytes, with no rule.
pub mod Plain
pub mod Rows
