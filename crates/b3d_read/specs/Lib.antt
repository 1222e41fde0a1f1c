-- What the reader promises.
pub mod Reads
