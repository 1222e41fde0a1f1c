-- The laws of counted rows.
pub mod SizeLaws
