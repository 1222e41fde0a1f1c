-- Laws of the tables of weights and keys.
pub mod TableLaws
pub mod KeyListLaws
