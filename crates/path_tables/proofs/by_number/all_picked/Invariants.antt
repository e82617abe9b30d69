use Rattle.std.proofs.Common.{◌≡◌, ◌++◌, drop, false, length, map}
use Rattle.path_plans.specs.Planned.{all_taken, choices_refused}
use Rattle.path_tables.specs.FilterTables.{AreRight, picks_view}
use Rattle.path_select.specs.Indexed.{at_number, at_numbers}
use Rattle.path_select.specs.Limit.{is_over}
use Rattle.path_select.specs.Nodes.{child_at}
use Rattle.path_tables.proofs.by_number.all_picked.Given as goal

abbrev pub invariant-loop-pick : goal.invariant-loop-pick
invariant-loop-pick l =
    let u = at_number l.index l.number in
    (at_numbers l.index l.found.items ++ map (child_at u.0) (all_taken (picks_view (drop l.pick-index l.pick-items)) u.1) ≡ map (child_at u.0) (all_taken (picks_view l.pick-items) u.1))
    × (choices_refused (picks_view (drop l.pick-index l.pick-items)) u.1 ≡ choices_refused (picks_view l.pick-items) u.1)
    × (is_over (length (at_numbers l.index l.found.items)) ≡ false)
    × AreRight l.index (drop l.pick-index l.pick-items)
