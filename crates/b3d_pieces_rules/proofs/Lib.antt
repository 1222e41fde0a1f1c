pub mod RowLengthLaws
pub mod FaultLaws
