-- The file of lent tables and what is asked to write it.
pub mod Whole
