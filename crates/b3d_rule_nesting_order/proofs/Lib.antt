-- The laws of the table.
pub mod RowLaws
pub mod PermitLaws
pub mod ExactLaws
