-- What a walk over a file shows of its mending.
-- Where a chunk's body goes.
-- Headers.
pub mod Shown
pub mod Heads
pub mod HeadRooms
pub mod Opens
