-- The laws of the loop.
pub mod Laws
