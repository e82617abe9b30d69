use Rattle.std.proofs.Common.{◌≡◌, drop}
use Rattle.doc_tree.specs.TreeView.{view}
use Rattle.schema_levels.specs.Bits.{bit}
use Rattle.schema_pattern.specs.Tables.{sources}
use Rattle.schema_changes.specs.Again.{rules_again}
use Rattle.schema_changes.proofs.again.rules_hold.Given as goal

abbrev pub invariant-loop-rule : goal.invariant-loop-rule
invariant-loop-rule l = (rules_again (bit l.passed) (view l.value) (drop l.rule-index l.rules) ≡ rules_again (bit l.passed) (view l.value) l.rules) × (sources l.searches ≡ sources l.fn.searches)
