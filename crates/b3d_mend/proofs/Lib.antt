-- The laws of the mender.
pub mod MendLaws
