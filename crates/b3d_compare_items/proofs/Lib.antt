-- The entries of pairs of items, and a law for each way through the functions.
pub mod TablePartLaws
pub mod PairLaws
