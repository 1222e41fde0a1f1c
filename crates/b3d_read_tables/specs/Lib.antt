-- What it takes to fill the ten tables of a file, and what they hold then.
pub mod Fills
