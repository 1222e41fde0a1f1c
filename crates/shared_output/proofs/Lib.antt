-- The laws of writing into a lent output.
pub mod WroteLaws
pub mod PieceLaws
pub mod AppendLaws
pub mod OutputLaws
pub mod PartLaws
