-- A law for each need of the functions.
pub mod ItemLaws
pub mod KeyRowLaws
pub mod VertexRowLaws
pub mod GroupLaws
