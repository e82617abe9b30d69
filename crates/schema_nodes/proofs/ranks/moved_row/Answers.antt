use Rattle.std.proofs.lemmas.List.{drop_all}
use Rattle.schema_nodes.proofs.Moving.{moved}
use Rattle.schema_nodes.proofs.ranks.moved_row.Goals as goal

pub returns : goal.returns
returns c = moved c.args.ranks.now _ c.args.row.now c.loop-number.moved.items c.loop-number.invariant (drop_all c.loop-number.number-index c.args.row.now c.loop-number-test.false)
