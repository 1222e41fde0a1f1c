-- The bytes of chunks whose rows begin with a name.
pub mod Named
pub mod Lists
