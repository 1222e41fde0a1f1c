-- The size of lent tables is that of their scene's file.
pub mod SizeLaws
pub mod TotalLaws
