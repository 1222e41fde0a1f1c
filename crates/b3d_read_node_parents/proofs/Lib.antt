-- Laws of the way up.
pub mod ParentLaws
