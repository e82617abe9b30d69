use Rattle.std.proofs.Common.{◌≡◌, drop}
use Rattle.std.specs.List.{list_any}
use Rattle.doc_tree.specs.Lists.{elements_list}
use Rattle.doc_tree.specs.Same.{same}
use Rattle.doc_tree.specs.TreeView.{view, elements_view}
use Rattle.schema_rules.proofs.distinct.is_equal_to_another.Given as goal

abbrev pub invariant-loop-other : goal.invariant-loop-other
invariant-loop-other l = list_any (same (view l.item)) (elements_list (elements_view (drop l.other-index l.others))) ≡ list_any (same (view l.item)) (elements_list (elements_view l.others))
