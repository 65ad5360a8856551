pub mod History
pub mod Parsed
pub mod Reading
pub mod Texts
pub mod Truth
