-- How far the chunks inside a chunk have come, and what the table alone says of the next one.
pub mod Turns
pub mod ByTable
