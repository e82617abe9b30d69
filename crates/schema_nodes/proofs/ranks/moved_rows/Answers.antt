use Rattle.std.proofs.lemmas.List.{drop_all}
use Rattle.schema_nodes.proofs.Moving.{rows_moved}
use Rattle.schema_nodes.proofs.ranks.moved_rows.Goals as goal

pub returns : goal.returns
returns c = rows_moved c.args.ranks.now _ c.args.rows.now c.loop-row.moved.items c.loop-row.invariant (drop_all c.loop-row.row-index c.args.rows.now c.loop-row-test.false)
