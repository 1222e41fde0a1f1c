-- Rows of triangle sets.
pub mod Sets
