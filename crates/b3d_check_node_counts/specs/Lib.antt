-- The rows that counts speak of, and what is left over of them.
pub mod Parts
pub mod Ended
