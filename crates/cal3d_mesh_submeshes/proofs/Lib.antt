pub mod CountsLaws
pub mod SubmeshLaws
pub mod TotalLaws
