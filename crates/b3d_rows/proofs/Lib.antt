-- A law for each need of the functions.
pub mod NextRowLaws
pub mod StartLaws
