-- What the code for two items promises.
pub mod ItemWords
