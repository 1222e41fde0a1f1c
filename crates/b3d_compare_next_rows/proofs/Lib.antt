-- Two tables row by row, and a law for each way through the function.
pub mod TableLaws
pub mod NextLaws
