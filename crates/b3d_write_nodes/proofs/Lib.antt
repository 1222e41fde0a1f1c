-- The laws of the walk that writes nodes.
pub mod NodeByteLaws
pub mod StandingLaws
pub mod TableLaws
pub mod NodeLaws
pub mod NodesLaws
