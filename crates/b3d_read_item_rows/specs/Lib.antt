-- Rows of the items of a chunk.
pub mod Items
