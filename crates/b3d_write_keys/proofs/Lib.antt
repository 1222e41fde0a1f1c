-- The laws of keys that are written.
pub mod KeyLaws
