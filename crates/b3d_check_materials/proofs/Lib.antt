-- The laws of a brush, and of how many slots there are.
pub mod BrushLaws
