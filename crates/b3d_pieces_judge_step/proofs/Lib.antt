pub mod TakeLaws
pub mod StepLaws
pub mod LoopLaws
pub mod RunLaws
