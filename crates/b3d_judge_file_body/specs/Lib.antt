-- What is answered of the chunks of a file.
pub mod Bodies
