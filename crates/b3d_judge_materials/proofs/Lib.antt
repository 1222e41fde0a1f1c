-- The laws of the judges of TEXS and BRUS.
pub mod TextureLaws
pub mod SlotLaws
pub mod TallyCountLaws
