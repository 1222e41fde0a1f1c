-- Nodes of lent tables and what is written of them.
pub mod Walk
