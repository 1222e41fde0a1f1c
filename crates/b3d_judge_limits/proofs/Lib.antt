-- Their laws.
pub mod LimitLaws
pub mod RoomLaws
