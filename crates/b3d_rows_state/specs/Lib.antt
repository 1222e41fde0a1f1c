-- A cursor as a state of plain numbers.
pub mod States
