use Rattle.std.proofs.Common.{◌≡◌, drop}
use Rattle.path_plans.specs.PlanView.{choices_view, plan_segments_view, tests_view}
use Rattle.path_tables.specs.FilterTables.{AreAllRight, AreRight}
use Rattle.path_tables.proofs.Phased.{TellFirst, phases_onto, picks_onto}
use Rattle.path_tables.proofs.tables.+telling.Given as goal

abbrev pub invariant-told_each-loop-part : goal.invariant-told_each-loop-part
invariant-told_each-loop-part l = TellFirst l.index (tests_view l.part-items) l.all.items (tests_view (drop l.part-index l.part-items))

abbrev pub invariant-phases_of-loop-segment : goal.invariant-phases_of-loop-segment
invariant-phases_of-loop-segment l =
    (phases_onto l.phases.items (plan_segments_view (drop l.segment-index l.segment-items)) ≡ plan_segments_view l.segment-items)
    × AreAllRight l.index l.phases.items

abbrev pub invariant-picks_of-loop-choice : goal.invariant-picks_of-loop-choice
invariant-picks_of-loop-choice l =
    (picks_onto l.picks.items (choices_view (drop l.choice-index l.choice-items)) ≡ choices_view l.choice-items)
    × AreRight l.index l.picks.items
