-- A vertex row as groups of cells.
pub mod Vertices
