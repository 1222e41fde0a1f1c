-- The piece judge as a machine that is handed one byte after the other.
pub mod Limits
pub mod Bodies
pub mod Machine
pub mod Close
pub mod Calls
pub mod Good
pub mod InPieces
pub mod Row
