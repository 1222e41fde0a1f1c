-- A law for each need of the functions.
pub mod VertexLaws
pub mod MeshLaws
