-- The vertices and the own row of a MESH.
pub mod Meshes
