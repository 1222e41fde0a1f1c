-- Ids that name something.
pub mod Ids
