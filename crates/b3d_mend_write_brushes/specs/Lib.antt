-- Ids one after the other.
-- Brushes.
-- Brushes to the end.
pub mod Ids
pub mod Brushes
pub mod Lists
