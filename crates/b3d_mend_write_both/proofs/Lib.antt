-- The laws of the answer and of both outputs.
pub mod BothAnswerLaws
pub mod BothLaws
