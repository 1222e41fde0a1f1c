pub mod PartLaws
pub mod VertexLaws
pub mod MapLaws
