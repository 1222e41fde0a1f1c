-- What stands at a tag's place.
pub mod LookupLaws
