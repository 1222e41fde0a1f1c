-- The laws of numbers in groups.
pub mod GroupLaws
pub mod Laws
pub mod PlaceLaws
pub mod SoFarLaws
pub mod NumberLaws
pub mod Cases
