-- The laws of the names that rows name.
pub mod NameLaws
