-- The laws of the functions that walk.
pub mod SeekLaws
pub mod HeadLaws
pub mod VertexLaws
pub mod RootLaws
pub mod FileLaws
