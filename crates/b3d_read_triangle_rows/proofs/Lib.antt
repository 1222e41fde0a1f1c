-- A law for each need of the functions.
pub mod TriangleLaws
pub mod SetLaws
