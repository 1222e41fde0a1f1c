-- Table 3 before its branch words are stored.
pub mod Bare
