-- The row that an item of a text and words makes.
pub mod Texts
