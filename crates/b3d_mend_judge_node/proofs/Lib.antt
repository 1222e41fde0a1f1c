-- The laws of its ways.
pub mod KindLaws
pub mod OwnLaws
