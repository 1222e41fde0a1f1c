-- The laws of the writer.
pub mod SoundLaws
pub mod SceneLaws
pub mod WriteLaws
