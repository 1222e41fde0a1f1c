-- The next chunk inside a chunk.
pub mod Steps
