pub mod Evaluating
pub mod TooMany
pub mod Planned
pub mod PlanView
pub mod PlanValues
