pub mod Accounts
pub mod Reopenings
pub mod SignedFiles
