-- The laws of counts and rooms.
pub mod RoomLaws
