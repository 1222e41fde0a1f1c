-- A node's row with a given branch word.
pub mod RowWith
