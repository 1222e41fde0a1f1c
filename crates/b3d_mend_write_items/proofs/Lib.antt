-- The laws of its functions.
-- The laws of its functions.
pub mod ItemPutLaws
pub mod SetPutLaws
