-- The laws of writing MESH, and a chunk by its tag.
pub mod MeshLaws
pub mod PartLaws
