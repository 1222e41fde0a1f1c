pub mod LimitLaws
pub mod JudgeLaws
