pub mod Reopening
pub mod SignedFiles
pub mod TrueFiles
