-- Rows of a lent table by their number.
pub mod Rows
pub mod Cells
pub mod IdRows
