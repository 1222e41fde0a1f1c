-- Their laws.
pub mod WidthLaws
pub mod ClipLaws
