use Rattle.std.proofs.Common.{◌≡◌, [], ◌∷◌, drop}
use Rattle.path_plans.specs.Planned.{listed, plan_refused}
use Rattle.path_tables.specs.FilterTables.{AreAllRight, phases_view}
use Rattle.path_select.specs.Indexed.{at_number, at_numbers}
use Rattle.path_tables.proofs.by_number.numbers_from.Given as goal

abbrev pub invariant-loop-phase : goal.invariant-loop-phase
invariant-loop-phase l =
    (listed (phases_view (drop l.phase-index l.phase-items)) (at_numbers l.index l.list.items) ≡ listed (phases_view l.phase-items) (at_number l.index l.number ∷ []))
    × (plan_refused (phases_view (drop l.phase-index l.phase-items)) (at_numbers l.index l.list.items) ≡ plan_refused (phases_view l.phase-items) (at_number l.index l.number ∷ []))
    × AreAllRight l.index (drop l.phase-index l.phase-items)
