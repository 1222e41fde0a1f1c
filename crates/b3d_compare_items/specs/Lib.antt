-- What the code for the items of two open chunks promises.
pub mod Items
