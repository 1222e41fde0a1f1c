-- A key row as groups of cells.
pub mod Keys
