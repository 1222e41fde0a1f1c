-- A mesh from its parts.
pub mod Parts
