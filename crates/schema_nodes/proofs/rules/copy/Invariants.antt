use Rattle.std.proofs.Common.{◌≡◌, take}
use Rattle.schema_nodes.proofs.rules.copy.Given as goal

abbrev pub invariant-loop-number : goal.invariant-loop-number
invariant-loop-number l = l.copied.items ≡ take l.number-index l.row
