-- The laws of the judges of bodies: what each body's steps say.
pub mod AnswerLaws
pub mod KeyLaws
pub mod IdLaws
pub mod VertexLaws
pub mod ChunkLoopLaws
