-- The laws between files and scenes: what `encode` writes `parse` reads, what `parse` reads fits.
pub mod TagCodeLaws
pub mod EntryLaws
pub mod NestingLaws
pub mod LeafLaws
pub mod NodeLaws
pub mod FileLaws
pub mod NameLaws
pub mod ByteLaws
pub mod SizeLaws
pub mod PlaceLaws
pub mod TagLaws
pub mod ModeLaws
pub mod BodyRefusalLaws
