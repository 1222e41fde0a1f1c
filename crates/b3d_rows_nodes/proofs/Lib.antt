-- A law for each need of the functions.
pub mod NodeStackLaws
-- The flat run step by step, a law for each need of the functions, and that accepted files are shallow.
pub mod FlatNodeLaws
pub mod FindNodeLaws
pub mod NextNodeLaws
pub mod DepthLaws
