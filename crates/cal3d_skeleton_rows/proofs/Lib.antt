-- Its laws.
pub mod FillLaws
