-- What is answered on brushes.
pub mod Brushes
