-- The laws of its ways.
pub mod SetLaws
pub mod MeshLaws
