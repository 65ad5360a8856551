pub mod EntityNumbers
pub mod Numerals
pub mod Output
pub mod Refusals
pub mod Rows
