-- The label of accepted files, and worked files.
pub mod WalkLaws
pub mod TableLaws
pub mod Cases
