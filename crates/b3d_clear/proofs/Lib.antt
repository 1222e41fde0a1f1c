-- The laws of the clearer.
pub mod ClearLaws
