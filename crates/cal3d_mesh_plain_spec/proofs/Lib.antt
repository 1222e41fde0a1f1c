pub mod ReadingPlaceLaws
pub mod MeshReadingLaws
pub mod EntryLaws
pub mod WidthLaws
