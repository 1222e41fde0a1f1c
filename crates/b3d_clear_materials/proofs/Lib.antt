-- The laws of writing items, TEXS and BRUS.
pub mod ItemLaws
pub mod ListLaws
