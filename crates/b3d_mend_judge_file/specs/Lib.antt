-- The chunks of a file after its textures.
pub mod Phases
