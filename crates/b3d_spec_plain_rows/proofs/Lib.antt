-- Laws of the flat run and of its rows.
pub mod TextEndLaws
pub mod FlatRunLaws
pub mod ItemLaws
pub mod LeafLaws
pub mod PartLaws
pub mod NodeLaws
pub mod MaterialLaws
pub mod NamedItemLaws
pub mod TreeLaws
pub mod FileLaws
pub mod Laws
pub mod PlainRowCases
