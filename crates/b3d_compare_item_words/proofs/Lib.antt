-- A law for each way through the functions, and what the entries of two items are in their rows.
pub mod ColumnLaws
pub mod WordEntryLaws
pub mod RowEntryLaws
