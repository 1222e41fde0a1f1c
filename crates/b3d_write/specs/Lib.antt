-- What the writer promises.
pub mod Writes
