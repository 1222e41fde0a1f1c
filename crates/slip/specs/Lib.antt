-- What slips are, and what their writer and reader answer.
pub mod Slips
pub mod OneSlip
pub mod Raised
