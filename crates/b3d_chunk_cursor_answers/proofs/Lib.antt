-- A cursor's answers are what the definitions read.
pub mod AnswerLaws
