-- The laws of nodes one after the other.
pub mod NodesLaws
