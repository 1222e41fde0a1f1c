pub mod RecordLaws
pub mod StateLaws
