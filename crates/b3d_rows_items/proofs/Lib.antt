-- A law for each need of the functions.
pub mod NextItemLaws
-- A law for each need of the functions.
pub mod OpenTextLaws
pub mod NextTextLaws
