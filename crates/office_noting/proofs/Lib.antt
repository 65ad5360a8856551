pub mod Arrived
pub mod Done
pub mod Leaves
pub mod Lines
pub mod Listed
pub mod Moves
pub mod Turns
