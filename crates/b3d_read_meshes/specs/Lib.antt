-- The rows of a MESH in the four tables of meshes.
pub mod Marks
