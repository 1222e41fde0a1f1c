-- Rows by the runs that are left out.
pub mod CleanRowLaws
