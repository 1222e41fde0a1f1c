-- What a mode asks of colours.
pub mod LentColours
