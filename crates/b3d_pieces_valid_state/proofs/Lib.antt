pub mod RowTestLaws
pub mod StateTestLaws
