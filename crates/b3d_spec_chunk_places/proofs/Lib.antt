-- Laws of places inside a chunk, and of the chunks that were read inside a MESH, a NODE and a file.
pub mod HeadLaws
pub mod TagTestLaws
pub mod NestingStateLaws
pub mod CycleLaws
pub mod MeshChunkLaws
pub mod NodeChunkLaws
pub mod FileChunkLaws
