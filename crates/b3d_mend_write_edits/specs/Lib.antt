-- What is left where no chunk is.
pub mod Rests
