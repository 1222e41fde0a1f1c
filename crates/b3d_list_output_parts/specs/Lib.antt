-- The parts that the lister's text is put together of.
pub mod Parts
