-- What the judge answers, in the terms of b3d_spec's definitions.
pub mod Answers
