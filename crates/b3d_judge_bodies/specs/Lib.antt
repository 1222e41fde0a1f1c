-- What the judge of a body answers, in the terms of b3d_spec's definitions.
pub mod Answers
pub mod Colours
