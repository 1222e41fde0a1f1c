pub mod RefusalLaws
pub mod RoomLaws
