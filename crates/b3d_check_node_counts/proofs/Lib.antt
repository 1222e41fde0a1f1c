-- The laws of counts after a node, and at the end.
pub mod CountLaws
pub mod AfterLaws
pub mod EndedLaws
