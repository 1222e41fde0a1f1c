-- The laws of its ways.
pub mod SizeAnswerLaws
