-- The laws of the walk.
-- The laws of its functions.
-- The laws of headers.
pub mod PieceShowsLaws
pub mod MeshShowsLaws
pub mod NodeShowsLaws
pub mod FileShowsLaws
pub mod ScopeLaws
pub mod HeadLaws
pub mod OpenLaws
