-- The parts that formats are described with. A part is given a place and the bytes left there, and gives a value or a refusal.
pub mod Lists
pub mod Result
pub mod Refusals
pub mod Rules
pub mod Parts
pub mod Chunks
pub mod Write
pub mod WellFormed
pub mod Fitting
pub mod Counted
pub mod Rows
pub mod Refused
