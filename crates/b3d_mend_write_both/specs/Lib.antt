-- Both outputs: their sizes and their room.
pub mod BothSizes
pub mod Mendable
