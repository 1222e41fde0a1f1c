-- The mending read without what becomes of the bytes.
-- A cursor without spare bytes.
-- One item, counted.
pub mod Lax
pub mod Trimmed
pub mod Ones
