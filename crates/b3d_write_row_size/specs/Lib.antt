-- How many bytes rows of lent tables add to the shortest file.
pub mod RowSize
