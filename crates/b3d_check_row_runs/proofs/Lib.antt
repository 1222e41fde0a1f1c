-- The laws of runs of rows and of rows with their items.
pub mod GroupLaws
pub mod EndLaws
pub mod MineLaws
pub mod ItemLaws
