-- Laws of the pass backward.
pub mod BranchLaws
