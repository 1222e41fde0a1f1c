-- Their laws.
pub mod LineLaws
