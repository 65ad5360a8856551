pub mod Exchanging
pub mod Forms
pub mod Leading
pub mod Served
pub mod Single
pub mod Stopping
