-- The laws of its functions.
pub mod BodyLaws
pub mod InsideLaws
