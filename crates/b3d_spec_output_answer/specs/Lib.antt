-- The answer for bytes of a given size.
pub mod Sizes
