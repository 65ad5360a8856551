pub mod Ascending
pub mod Counted
pub mod Exits
pub mod Maps
pub mod Numerals
pub mod Written
