-- What the code for a difference promises.
pub mod Spans
