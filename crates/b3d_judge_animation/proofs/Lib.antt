-- The laws of its ways.
pub mod MoveLaws
pub mod AnimationLaws
