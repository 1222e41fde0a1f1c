-- The laws of the definitions.
-- The mending read beside what is counted of it.
-- The laws of its loop.
-- The laws of its functions.
pub mod PieceStepLaws
pub mod AlikeLaws
pub mod LaxPartLaws
pub mod LaxNodeLaws
pub mod LaxFileLaws
pub mod CountLaws
pub mod TrimLaws
pub mod KeepLaws
pub mod KeptLaws
