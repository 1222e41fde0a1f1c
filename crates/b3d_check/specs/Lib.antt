-- Lent tables as code has them.
pub mod Lent
