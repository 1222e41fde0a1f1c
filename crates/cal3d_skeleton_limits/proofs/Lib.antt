pub mod FileLaws
pub mod GoodLaws
