-- The chunks of a file.
-- What is answered of a file that is to be mended.
pub mod Bodies
pub mod Answers
