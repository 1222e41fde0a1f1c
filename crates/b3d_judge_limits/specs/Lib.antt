-- The tests on numbers, as definitions.
pub mod Limits
pub mod Rooms
