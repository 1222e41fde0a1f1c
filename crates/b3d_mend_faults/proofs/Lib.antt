-- The reader's refusal is the first of a file's faults, the mender's the first of another kind than the four; the report's entries are of the faults that were mended.
pub mod AgreeLaws
pub mod ReportTellsLaws
pub mod SharedLaws
pub mod ReaderLaws
pub mod MenderLaws
pub mod HeaderDueLaws
pub mod RefusalThreeLaws
pub mod Cases
pub mod Laws
