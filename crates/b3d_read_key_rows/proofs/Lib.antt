-- Laws of keys by runs.
pub mod KeyLaws
