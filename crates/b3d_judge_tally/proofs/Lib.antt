-- Laws of tallies, of answers that hold them, and the sum over a scene.
pub mod TallyLaws
pub mod AnswerLaws
pub mod ChainLaws
pub mod TotalLaws
pub mod KeyLimitLaws
