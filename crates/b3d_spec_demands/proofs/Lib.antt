-- The demands and what they come from.
pub mod ReadingPairLaws
pub mod PrivateSplitLaws
pub mod PrivateShapeLaws
pub mod PrivateReadingLaws
pub mod LowestTableLaws
pub mod NamePlaceLaws
pub mod SoundTableLaws
pub mod NameLaws
pub mod ReaderDemandLaws
pub mod WriterDemandLaws
pub mod ClearerDemandLaws
pub mod CallLaws
pub mod PrivacyLaws
pub mod PrivateCases
pub mod ModeLaws
pub mod BranchLaws
pub mod BoneLaws
