-- The first of the lent tables that is too short.
pub mod Rooms
