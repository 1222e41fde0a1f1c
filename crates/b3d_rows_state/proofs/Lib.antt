-- A law for each need of the functions.
pub mod StateLaws
-- What they make of an accepted file.
pub mod AcceptedLaws
