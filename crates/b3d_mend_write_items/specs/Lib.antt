-- Items that stay, one after the other.
pub mod Runs
