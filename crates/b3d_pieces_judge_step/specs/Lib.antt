pub mod Takes
pub mod Loops
pub mod Runs
