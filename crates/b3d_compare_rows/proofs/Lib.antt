-- What the entries of two rows are, and a law for each way through the functions.
pub mod RowLaws
pub mod PutLaws
