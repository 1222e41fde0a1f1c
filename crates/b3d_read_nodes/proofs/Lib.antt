-- Laws of a node's row, and of the loop that fills table 3.
pub mod CellLaws
pub mod NodeRowLaws
