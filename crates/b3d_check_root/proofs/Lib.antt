-- The laws of the whole tree.
pub mod TreeLaws
