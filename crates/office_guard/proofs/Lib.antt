pub mod ByRights
pub mod Deeds
pub mod Openers
pub mod SignedByRight
pub mod SignedLines
pub mod StandIns
pub mod StepActs
