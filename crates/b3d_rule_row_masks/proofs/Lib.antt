-- The masks are their runs.
pub mod MaskLaws
