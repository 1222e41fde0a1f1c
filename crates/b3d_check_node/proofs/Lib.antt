-- The laws of a node's kind, of its key lists, of the whole node, and of the counts after a sound one.
pub mod KindLaws
pub mod NodeLaws
pub mod BoundLaws
