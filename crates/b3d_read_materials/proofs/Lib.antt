-- Laws of a row, of the loop over texts, and of the two tables.
pub mod StoreLaws
pub mod NamedRowLaws
pub mod MaterialLaws
