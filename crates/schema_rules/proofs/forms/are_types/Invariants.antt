use Rattle.std.proofs.Common.{◌≡◌, drop}
use Rattle.std.specs.List.{list_all}
use Rattle.doc_tree.specs.Lists.{elements_list}
use Rattle.doc_tree.specs.TreeView.{elements_view}
use Rattle.schema_rules.specs.Forms.{is_type}
use Rattle.schema_rules.proofs.forms.are_types.Given as goal

abbrev pub invariant-loop-item : goal.invariant-loop-item
invariant-loop-item l = list_all is_type (elements_list (elements_view (drop l.item-index l.item-items))) ≡ list_all is_type (elements_list (elements_view l.item-items))
