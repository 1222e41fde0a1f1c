-- The bytes of chunks whose items are words as they are.
pub mod Chunks
