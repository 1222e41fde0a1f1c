-- The laws of what is put.
pub mod PutLaws
