-- The laws of rows with colours, and of modes.
pub mod ColourRowLaws
pub mod ColourModeLaws
