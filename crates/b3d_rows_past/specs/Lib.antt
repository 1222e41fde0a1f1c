-- Places behind items of the open chunk.
pub mod Past
