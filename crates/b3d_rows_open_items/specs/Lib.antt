-- The items of one chunk that are still to come.
pub mod ItemsLeft
