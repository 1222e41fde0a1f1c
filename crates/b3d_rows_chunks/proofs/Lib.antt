-- A law for each need of the functions.
pub mod NextChunkLaws
pub mod NextSetLaws
