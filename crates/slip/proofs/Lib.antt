-- The laws of slips.
pub mod SlipWriteLaws
pub mod WriteLaws
pub mod ReadLaws
pub mod SlipLaws
pub mod Cases
