pub mod ByDeeds
pub mod Gated
pub mod Given
pub mod NextDenied
pub mod Visited
pub mod Visits
