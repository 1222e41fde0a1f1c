-- The cells of open nodes.
pub mod Cells
