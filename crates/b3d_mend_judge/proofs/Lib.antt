-- The laws of its ways.
-- The laws of its ways.
pub mod ChunksLaws
pub mod BodyLaws
pub mod JudgeLaws
