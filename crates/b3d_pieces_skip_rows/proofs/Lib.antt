pub mod JudgedLaws
pub mod FreeLaws
