use Rattle.std.proofs.Common.{◌∙◌, ap}
use Rattle.path_plans.proofs.Ways.{ways_refused}
use Rattle.path_plans.specs.PlanView.{test_view}
use Rattle.path_plans.specs.Planned.{test_refused}
use Rattle.path_plans.proofs.passing.may_be_refused.Goals as goal

pub returns-in-LeadsThere : goal.returns-in-LeadsThere
returns-in-LeadsThere c = λ d _. ap (λ t. test_refused t d) (ap test_view c.in-LeadsThere.is) ∙ ways_refused c.in-LeadsThere.field-0.items d
