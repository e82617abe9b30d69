use Rattle.std.proofs.Common.{◌≡◌, drop}
use Rattle.doc_tree.specs.TreeView.{view}
use Rattle.path_plans.specs.PlanValues.{planned_from}
use Rattle.path_plans.specs.PlanView.{ways_plan}
use Rattle.path_plans.proofs.passing.led_to.Given as goal

abbrev pub invariant-loop-way : goal.invariant-loop-way
invariant-loop-way l = planned_from (ways_plan (drop l.way-index l.ways)) (view l.value) ≡ planned_from (ways_plan l.ways) (view l.here)
