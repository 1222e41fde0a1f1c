-- Each test of specs/Check with what it says, from a row's cells up to the whole: `Verdict` has that `check` is the verdict of `rebuild`.
pub mod TestLaws
pub mod RowLaws
pub mod MaskLaws
pub mod GroupLaws
pub mod MeshLaws
pub mod KindLaws
pub mod NodeLaws
pub mod CountLaws
pub mod WalkLaws
pub mod ParentLaws
pub mod ForestLaws
pub mod MaterialLaws
pub mod VerdictLaws
