pub mod HeadLaws
pub mod FileEndLaws
