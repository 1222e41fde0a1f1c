pub mod GatherLaws
pub mod TellLaws
pub mod PlaceLaws
pub mod AnswerLaws
