pub mod OpenChunkTestLaws
pub mod PartTestLaws
