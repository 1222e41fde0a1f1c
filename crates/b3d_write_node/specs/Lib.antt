-- What a node has of its own, as it is written from lent tables.
pub mod Own
