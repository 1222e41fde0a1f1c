-- The laws of what a node has of its own.
pub mod KindLaws
pub mod PartLaws
pub mod TrimmedTableLaws
