pub mod NestLaws
pub mod StepLaws
pub mod EdgeLaws
