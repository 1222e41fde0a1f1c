-- The laws of the lister's text.
pub mod NameLineLaws
pub mod LengthLaws
pub mod Cases
