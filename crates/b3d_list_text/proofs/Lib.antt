-- Laws of text that is put into a lent slice.
pub mod PutLaws
pub mod DecimalLaws
pub mod TextLaws
pub mod LengthLaws
