use Rattle.std.proofs.Common.{drop}
use Rattle.schema_nodes.proofs.Holding.{EachHeld}
use Rattle.schema_nodes.proofs.held.held_by_entries.Given as goal

abbrev pub invariant-loop-entry : goal.invariant-loop-entry
invariant-loop-entry l = EachHeld l.entries (drop l.entry-index l.entries) l.all.items
