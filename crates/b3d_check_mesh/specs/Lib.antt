-- Meshes among the rows of lent tables.
pub mod Parts
