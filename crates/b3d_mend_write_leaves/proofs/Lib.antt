-- The laws of its functions.
-- The laws of its functions.
-- The laws of openings.
pub mod CountLaws
pub mod LeafLaws
