pub mod SubmeshLaws
pub mod FillLaws
