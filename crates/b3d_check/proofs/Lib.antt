-- The laws of the whole check.
pub mod SameRowLaws
pub mod CheckLaws
pub mod VerdictLaws
