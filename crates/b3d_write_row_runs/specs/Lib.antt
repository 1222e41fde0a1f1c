-- Lent tables by rows, and the bytes of a row.
pub mod Lent
pub mod RowBytes
