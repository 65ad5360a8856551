pub mod DueCommand
pub mod Parts
pub mod PlanFile
pub mod PlanLines
