-- Rows that own groups of items in lent tables; the key lists of a node.
pub mod Items
pub mod Mine
