-- Where a cursor stands.
pub mod Places
