-- The laws of rows by their number, of tests one after the other, and of each test on a row.
pub mod AndLaws
pub mod RowCellLaws
pub mod LoopLaws
pub mod CellLaws
pub mod RowLaws
