-- Its laws.
pub mod RoomLaws
