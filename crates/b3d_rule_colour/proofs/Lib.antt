-- The laws of colours.
pub mod UnitRangeLaws
