-- The scenes that the counted rows of lent tables stand for.
pub mod Counted
