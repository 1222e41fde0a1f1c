-- 4 and 8 are the answer just where the nesting table says no, and the strict mode's 6 at the first colour that does not pass.
pub mod FixedDataLaws
pub mod FaultSearchLaws
pub mod ChunkFaultLaws
pub mod RowPairLaws
pub mod ItemPairLaws
pub mod ColourPairLaws
pub mod BodyLaws
pub mod ReaderLaws
pub mod GivenLaws
