pub mod PlanLaws
pub mod PlanRows
pub mod PlanValued
pub mod Ways
pub mod Filtered
