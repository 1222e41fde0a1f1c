-- Tables without rows.
pub mod EmptyTableLaws
