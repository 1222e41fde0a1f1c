-- Their laws.
pub mod PartLaws
