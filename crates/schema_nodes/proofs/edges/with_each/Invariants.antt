use Rattle.std.proofs.Common.{◌≡◌, ◌++◌, drop}
use Rattle.schema_nodes.proofs.edges.with_each.Given as goal

abbrev pub invariant-loop-number : goal.invariant-loop-number
invariant-loop-number l = l.found.items ++ drop l.number-index l.row ≡ l.initial.found.items ++ l.row
