-- The laws of vertices that are written.
pub mod VertexLaws
