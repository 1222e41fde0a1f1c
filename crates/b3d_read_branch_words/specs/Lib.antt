-- Rows of nodes with and without their branch words.
pub mod Marks
