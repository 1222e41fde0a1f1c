-- Laws of vertices by runs.
pub mod SetLaws
pub mod VertexLaws
pub mod FillLaws
