pub mod ByRights
pub mod Permitted
pub mod SignedLines
