-- Rows that begin with a name, counted; brushes.
pub mod CountLaws
pub mod BrushLaws
