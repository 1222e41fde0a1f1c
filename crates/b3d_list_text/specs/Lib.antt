-- Text as bytes, and what a lent slice holds after a text was put into it.
pub mod Puts
pub mod Text
