-- What the code for two tables promises.
pub mod Tables
