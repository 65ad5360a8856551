pub mod HoldCounts
pub mod Meanings
pub mod Numbers
