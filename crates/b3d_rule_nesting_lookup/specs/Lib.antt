-- Rows and entries of the table by their tags.
pub mod Entries
