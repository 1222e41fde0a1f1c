-- Counts and rooms of lent tables.
pub mod LentRooms
