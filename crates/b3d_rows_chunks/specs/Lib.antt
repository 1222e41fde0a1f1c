-- The next row of tables that have a row for a chunk.
pub mod NextChunk
