-- The laws of their ways.
pub mod RoomAnswerLaws
