-- The laws of what rows add.
pub mod RowLaws
