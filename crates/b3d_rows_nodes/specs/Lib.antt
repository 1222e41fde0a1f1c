-- The nodes that are open at a place.
pub mod NodeStack
-- The next row of table 3.
pub mod NextNode
