-- The laws of the steps: what the functions rest on, and what their answers say to callers.
pub mod TagLaws
pub mod PassLaws
pub mod NextLaws
pub mod NamedLaws
