-- The verdict on lent tables as code finds it.
pub mod CellCounts
pub mod Check
pub mod Below
pub mod Rooms
