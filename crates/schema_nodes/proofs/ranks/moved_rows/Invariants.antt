use Rattle.std.proofs.Common.{drop}
use Rattle.schema_nodes.proofs.Moving.{RowsMoving}
use Rattle.schema_nodes.proofs.ranks.moved_rows.Given as goal

abbrev pub invariant-loop-row : goal.invariant-loop-row
invariant-loop-row l = RowsMoving l.ranks (drop l.row-index l.rows) l.rows l.moved.items
