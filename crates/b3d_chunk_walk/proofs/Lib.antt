-- Laws of the flat walk, of a table that is filled by it, and of the first chunk of a tag.
pub mod FlatLaws
pub mod CountLaws
pub mod SeekLaws
pub mod TableLaws
pub mod FirstWordLaws
pub mod PutLaws
pub mod MeshLaws
