-- The laws of the slip of a file.
pub mod SlipOfLaws
pub mod FileLaws
pub mod Cases
