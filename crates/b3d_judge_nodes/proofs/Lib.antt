-- The laws of the ways of `judge_node` and `judge_nodes`.
pub mod NodeLaws
