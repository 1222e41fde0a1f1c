-- Laws of the walk and of what it leaves to the pass backward.
pub mod RowsAheadLaws
pub mod NodeTableLaws
