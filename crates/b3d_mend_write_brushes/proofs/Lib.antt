-- The laws of its loop.
-- The laws of its functions.
-- The laws of its loop.
pub mod IdPutLaws
pub mod BrushPutLaws
pub mod ListPutLaws
pub mod BrusPutLaws
