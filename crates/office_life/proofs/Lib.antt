pub mod DeskWork
pub mod Ends
pub mod LeftTables
pub mod Leading
pub mod Nothing
pub mod Openings
pub mod Rests
pub mod Tellings
