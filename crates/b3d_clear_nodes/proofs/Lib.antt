-- The laws of writing the nodes of the copy.
pub mod NodeLaws
