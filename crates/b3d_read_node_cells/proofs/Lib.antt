-- Laws of the walks over a node's own chunks, and of the eight cells together.
pub mod OwnChunkLaws
pub mod CellLaws
