use Rattle.std.proofs.Common.{◌≡◌}
use Rattle.doc_tree.specs.TreeView.{view, members_view}
use Rattle.schema_rules.specs.Assertions.{each_dependent}
use Rattle.schema_rules.proofs.required.has_each_dependent.Given as goal

abbrev pub invariant-loop-name : goal.invariant-loop-name
invariant-loop-name l = each_dependent (members_view l.name-iterator) (view l.instance) ≡ each_dependent (members_view l.dependents.entries) (view l.instance)
