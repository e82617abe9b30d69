pub use Rattle.path_select.specs.Nodes
pub use Rattle.path_plans.specs.Evaluating
pub use Rattle.path_plans.specs.TooMany
pub mod NodeView
pub mod Listed
pub mod Answer
