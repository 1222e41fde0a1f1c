-- What the code for the shape of items promises.
pub mod Shapes
