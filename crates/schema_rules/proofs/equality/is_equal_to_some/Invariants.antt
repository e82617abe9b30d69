use Rattle.std.proofs.Common.{◌≡◌, drop}
use Rattle.std.specs.List.{list_any}
use Rattle.doc_tree.specs.Lists.{elements_list}
use Rattle.doc_tree.specs.Same.{same}
use Rattle.doc_tree.specs.TreeView.{elements_view}
use Rattle.schema_rules.specs.Instances.{seen}
use Rattle.schema_rules.proofs.equality.is_equal_to_some.Given as goal

abbrev pub invariant-loop-item : goal.invariant-loop-item
invariant-loop-item l = list_any (λ d. same d (seen l.instance)) (elements_list (elements_view (drop l.item-index l.item-items))) ≡ list_any (λ d. same d (seen l.instance)) (elements_list (elements_view l.item-items))
