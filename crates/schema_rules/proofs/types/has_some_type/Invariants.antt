use Rattle.std.proofs.Common.{◌≡◌, drop}
use Rattle.std.specs.List.{list_any}
use Rattle.doc_tree.specs.Lists.{elements_list}
use Rattle.doc_tree.specs.TreeView.{elements_view}
use Rattle.schema_rules.specs.Instances.{seen}
use Rattle.schema_rules.specs.Assertions.{is_of_text}
use Rattle.schema_rules.proofs.types.has_some_type.Given as goal

abbrev pub invariant-loop-name : goal.invariant-loop-name
invariant-loop-name l = list_any (λ n. is_of_text n (seen l.instance)) (elements_list (elements_view (drop l.name-index l.name-items))) ≡ list_any (λ n. is_of_text n (seen l.instance)) (elements_list (elements_view l.name-items))
