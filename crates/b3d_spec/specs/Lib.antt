-- What a B3D file says, what its tables hold, and what reader, writer and clearer answer.
pub mod Tags
pub mod Scene
pub mod Rules
pub mod Nesting
pub mod Parse
pub mod Encode
pub mod Names
pub mod WellFormed
pub mod Fitting
pub mod Widths
pub mod Columns
pub mod Mask
pub mod Colours
pub mod Tables
pub mod Rebuild
pub mod Sizes
pub mod Answers
