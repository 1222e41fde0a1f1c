-- The bytes of a MESH.
pub mod Mesh
