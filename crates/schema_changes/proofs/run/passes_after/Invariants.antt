use Rattle.std.proofs.Common.{◌≡◌, ℕ, ◌+◌, ◌/◌, Bool, drop, length}
use Rattle.doc_tree.specs.Doc.{Doc}
use Rattle.doc_tree.specs.TreeView.{view}
use Rattle.schema_levels.specs.Table.{IsTable}
use Rattle.schema_pattern.specs.Tables.{sources}
use Rattle.schema_changes.specs.Again.{only}
use Rattle.schema_changes.proofs.Alone.{LeavesTo}
use Rattle.schema_changes.proofs.run.passes_after.Given as goal

abbrev pub invariant-loop-path : goal.invariant-loop-path
invariant-loop-path l =
    ((known : ℕ → Doc → Bool) → IsTable l.nodes known → LeavesTo known l.nodes (only ((length l.nodes + 63) / 64) l.number) (drop l.path-index l.paths) l.paths (view l.value))
    × (sources l.searches ≡ sources l.fn.searches)
