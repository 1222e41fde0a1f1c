-- What the code for an entry promises.
pub mod Entries
