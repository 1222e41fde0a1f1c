pub mod VertexLaws
pub mod VerticesLaws
