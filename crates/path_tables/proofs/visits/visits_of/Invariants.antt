use Rattle.std.proofs.Common.{Bool, List}
use Rattle.path_tables.specs.Visits.{AreVisits}
use Rattle.path_plans.specs.Planned.{PlanSelectors}
use Rattle.path_select.specs.Nodes.{Located}
use Rattle.path_select.specs.declared.index.Index.{Index}
use Rattle.path_tables.proofs.visits.visits_of.Given as goal

abbrev pub invariant-loop-number : goal.invariant-loop-number
invariant-loop-number l =
    (ss : PlanSelectors) (descend : Bool) (x : Index) (listed : List Located) → AreVisits ss descend x listed l.visits.items
