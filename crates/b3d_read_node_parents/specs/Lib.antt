-- The way up from a node's row to those above it.
pub mod Links
