-- The laws of the copy without names.
pub mod ExactLaws
pub mod LeafLaws
pub mod ItemLaws
pub mod PartLaws
pub mod MaterialLaws
pub mod MeshLaws
pub mod NodeLaws
pub mod FileLaws
