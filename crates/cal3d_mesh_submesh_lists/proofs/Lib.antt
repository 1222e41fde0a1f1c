-- Its laws.
pub mod ListLaws
