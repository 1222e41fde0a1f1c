-- Which cells of a row hold words of the file, as groups of cells.
pub mod Runs
