-- The laws of the path.
pub mod PathLaws
