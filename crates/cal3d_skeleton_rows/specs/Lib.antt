-- The cells of a bone's row.
pub mod Cells
