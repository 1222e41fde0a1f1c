-- A law for each way through the functions.
pub mod CompareLaws
