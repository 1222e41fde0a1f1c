-- The laws of what moves a node.
pub mod MoveLaws
