-- What the code for two rows promises.
pub mod Rows
