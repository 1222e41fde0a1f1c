-- The faults of a file in 01's order, which of them the reader and the mender refuse, and which of them a report has entries of.
pub mod Faults
pub mod Headers
pub mod FirstFault
pub mod ReportTells
