-- That the verdict of specs/Check is that of `rebuild`, and how code walks the rows of tables that are sound.
pub mod Check
pub mod BelowLaws
pub mod PlaceLaws
