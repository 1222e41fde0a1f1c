-- The laws of a MESH that is written.
pub mod BodyLaws
