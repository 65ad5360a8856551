pub mod FirstLine
pub mod PartLemmas
pub mod PlanLemmas
pub mod TextLemmas
pub mod Unwritten
pub mod Utf8
