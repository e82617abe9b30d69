use Rattle.std.proofs.lemmas.List.{drop_all}
use Rattle.schema_nodes.proofs.Holding.{each_held}
use Rattle.schema_nodes.proofs.held.held_by_entries.Goals as goal

pub returns : goal.returns
returns c = each_held c.args.entries.now _ c.loop-entry.all.items c.loop-entry.invariant (drop_all c.loop-entry.entry-index c.args.entries.now c.loop-entry-test.false)
