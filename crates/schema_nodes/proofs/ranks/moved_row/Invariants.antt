use Rattle.std.proofs.Common.{drop}
use Rattle.schema_nodes.proofs.Moving.{Moving}
use Rattle.schema_nodes.proofs.ranks.moved_row.Given as goal

abbrev pub invariant-loop-number : goal.invariant-loop-number
invariant-loop-number l = Moving l.ranks (drop l.number-index l.row) l.row l.moved.items
