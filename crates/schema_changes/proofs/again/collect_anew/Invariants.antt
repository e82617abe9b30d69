use Rattle.std.proofs.Common.{◌≡◌, ◌-◌, drop, length}
use Rattle.schema_changes.specs.Again.{collect_anew}
use Rattle.schema_changes.proofs.again.collect_anew.Given as goal

abbrev pub invariant-loop-number : goal.invariant-loop-number
invariant-loop-number l = collect_anew l.in_list l.asked l.number (drop l.number l.nodes) l.found ≡ collect_anew l.in_list l.asked 0 l.nodes l.initial.found

abbrev pub decreases-loop-number : goal.decreases-loop-number
decreases-loop-number l = length l.nodes - l.number
