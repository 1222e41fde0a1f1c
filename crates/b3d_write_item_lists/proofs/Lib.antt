-- The laws of runs that are written.
pub mod GroupByGroupLaws
pub mod RunLaws
