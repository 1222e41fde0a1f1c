-- Laws of the tables of meshes.
pub mod TableLaws
pub mod MeshLaws
