-- The laws of what edits show.
pub mod ShowsLaws
