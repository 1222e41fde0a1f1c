-- What the demands speak of.
pub mod Having
pub mod Demands
pub mod Calls
pub mod Private
pub mod Branches
pub mod Bones
