-- The list of two accepted files, and a law for each way through the functions.
pub mod AcceptedPairLaws
pub mod FileLaws
