pub mod Life
pub mod Requests
pub mod Stints
