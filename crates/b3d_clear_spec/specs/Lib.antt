-- The copy without names, from the bytes of a file.
pub mod Copies
