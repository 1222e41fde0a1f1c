pub mod StoreLaws
pub mod CopyLaws
pub mod JoinedLaws
