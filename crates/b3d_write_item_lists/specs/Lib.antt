-- The bytes of KEYS and TRIS.
pub mod Runs
