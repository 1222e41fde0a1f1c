-- The laws of writing a file.
pub mod RootLaws
pub mod FileLaws
