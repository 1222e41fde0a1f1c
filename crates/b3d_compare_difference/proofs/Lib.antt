pub mod FloatWordLaws
pub mod ValueLaws
