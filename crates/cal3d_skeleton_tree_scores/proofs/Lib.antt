-- Scores and lists.
pub mod ScoreLaws
pub mod NoteLaws
