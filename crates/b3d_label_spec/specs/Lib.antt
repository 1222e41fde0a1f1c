-- What the tray label says of a file, on every input.
pub mod Walk
