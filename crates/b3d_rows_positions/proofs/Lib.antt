-- The loop of `find_chunk`.
pub mod FindChunkLaws
-- A law for each need of the functions, and rows that tell of some counts only.
pub mod PositionLaws
pub mod CountLaws
