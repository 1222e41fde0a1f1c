-- What is put into an output, or only counted.
pub mod Emits
