-- The next row of a table of items.
pub mod NextItem
-- The next row of a table of texts.
pub mod NextText
