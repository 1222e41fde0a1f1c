-- The laws of its ways.
pub mod AnswerLaws
pub mod SetLaws
pub mod MeshLaws
