-- The laws of rows with names and of their chunks.
pub mod NamedRowLaws
pub mod MaterialLaws
