-- The laws of its ways.
pub mod ChunksLaws
pub mod BodyLaws
