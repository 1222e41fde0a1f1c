-- A law for each need of the functions, and what is left behind an item.
pub mod OpeningLaws
pub mod ItemsLeftLaws
