-- The laws of meshes.
pub mod MeshLaws
