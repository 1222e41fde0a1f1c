-- The laws of the definitions. `Laws` has those that the rest rests on; their proofs are in Files and Rows. Cases has the starred worked
-- files, ExtraCases others.
pub mod WellFormedLaws
pub mod Files
pub mod Rows
pub mod TwoModeLaws
pub mod FileTableLaws
pub mod Laws
pub mod AnswerLaws
pub mod RefusalLaws
pub mod Computing
pub mod Cases
pub mod ExtraCases
pub mod ColourCases
pub mod LargeCases
