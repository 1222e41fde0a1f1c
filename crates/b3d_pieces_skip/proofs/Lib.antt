pub mod PartLaws
pub mod PassLaws
