-- The laws of writing chunks of the copy: one, two one after the other, each of a tag.
pub mod ChunkLaws
pub mod EachChunkLaws
