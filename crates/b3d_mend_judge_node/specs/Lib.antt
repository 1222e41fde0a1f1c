-- What is answered of a node as it is mended, without the nodes below it.
pub mod Answers
