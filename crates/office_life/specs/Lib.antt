pub mod Fuses
pub mod Life
pub mod Opening
pub mod Standing
pub mod Tables
pub mod Told
