-- The laws of items: what the functions rest on, and what their answers say to callers.
pub mod DividedLaws
pub mod ItemLaws
