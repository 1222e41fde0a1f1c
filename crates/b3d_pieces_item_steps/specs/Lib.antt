pub mod Nests
pub mod Nows
