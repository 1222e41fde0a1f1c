-- The laws of the ways of `lax_node` and `lax_nodes`.
pub mod NodeLaws
