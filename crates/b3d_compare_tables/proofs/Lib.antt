-- Two tables row by row, and a law for each way through the functions.
pub mod PlaceLaws
pub mod RowStepLaws
pub mod AcceptedLaws
