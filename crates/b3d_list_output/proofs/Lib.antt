-- The laws of `put_listing`.
pub mod ListLaws
