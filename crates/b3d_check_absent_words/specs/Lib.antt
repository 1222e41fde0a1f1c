-- Cells that are left out of a row and must be 0.
pub mod Zeros
