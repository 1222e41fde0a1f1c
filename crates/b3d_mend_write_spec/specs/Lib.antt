-- What edits show.
pub mod Shown
