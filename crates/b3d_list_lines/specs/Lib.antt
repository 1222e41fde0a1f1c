-- The lines of nodes.
pub mod Lines
