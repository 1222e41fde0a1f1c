pub mod RowLaws
pub mod ByteLaws
