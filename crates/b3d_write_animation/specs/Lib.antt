-- The bytes of a node's KEYS and ANIM.
pub mod Animation
