-- The laws of the judge's ways, and what its verdict says.
pub mod JudgeLaws
pub mod VerdictLaws
