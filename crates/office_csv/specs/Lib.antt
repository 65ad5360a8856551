pub mod ImportRows
pub mod ImportText
pub mod Registers
