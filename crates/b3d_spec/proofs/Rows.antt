-- The laws between scenes and tables: what `rebuild` makes of a scene's rows, and the rows of what it rebuilds.
pub mod TableNumberLaws
pub mod MaskLaws
pub mod WordCountLaws
pub mod RowListLaws
pub mod RowPartLaws
pub mod NodeRowLaws
pub mod TreeLaws
pub mod RebuildLaws
pub mod CountLaws
pub mod RenameLaws
