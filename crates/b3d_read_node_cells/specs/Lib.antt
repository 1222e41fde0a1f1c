-- The cells of a node's row that its chunks give.
pub mod Parts
