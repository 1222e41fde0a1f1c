-- What the steps of a walk find, in the terms of layout and b3d_spec.
pub mod Chunks
