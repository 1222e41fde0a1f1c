-- The rows of any table one after the other.
pub mod NextRow
