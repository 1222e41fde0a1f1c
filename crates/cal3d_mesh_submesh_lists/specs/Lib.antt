-- How many entries submeshes hold.
pub mod Contents
