-- Laws of words that are looked at one after the other.
pub mod IdLaws
