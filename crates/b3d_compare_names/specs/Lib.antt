-- What the code for two names promises.
pub mod NameEntries
