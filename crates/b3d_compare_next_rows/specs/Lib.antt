-- What the code for the next rows of two files promises.
pub mod NextRows
