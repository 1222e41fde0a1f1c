-- The laws of rows that are written.
pub mod CutRowLaws
pub mod CellLaws
pub mod RowByRowLaws
pub mod PresentWordLaws
