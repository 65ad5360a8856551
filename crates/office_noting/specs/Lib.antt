pub mod Arrivals
pub mod Gates
pub mod InJournal
pub mod Ledgers
pub mod Noted
pub mod Replies
pub mod Requests
pub mod Sessions
