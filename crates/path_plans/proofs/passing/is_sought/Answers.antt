use Rattle.std.proofs.Common.{◌∙◌, ap}
use Rattle.path_plans.proofs.Ways.{ways_refused}
use Rattle.path_plans.specs.PlanView.{term_view}
use Rattle.path_plans.specs.Planned.{side_refused}
use Rattle.path_plans.proofs.passing.is_sought.Goals as goal

pub returns-in-LedTo : goal.returns-in-LedTo
returns-in-LedTo c = λ d _. ap (λ o. side_refused o d) (ap term_view c.in-LedTo.is) ∙ ways_refused c.in-LedTo.field-0.items d
