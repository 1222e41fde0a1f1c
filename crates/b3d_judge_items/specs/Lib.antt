-- What is found in items, in the terms of layout.
pub mod Items
