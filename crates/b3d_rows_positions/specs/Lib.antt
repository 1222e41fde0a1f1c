-- The next chunk of a tag in the flat run.
pub mod FindChunk
-- Rows that are still to come from a position.
pub mod Positions
