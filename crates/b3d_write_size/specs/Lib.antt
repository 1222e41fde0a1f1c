-- The size of the shortest file, from lent tables.
pub mod LentSize
