use Rattle.std.proofs.Common.{◌≡◌, drop}
use Rattle.std.specs.List.{list_all}
use Rattle.doc_tree.specs.Lists.{elements_list}
use Rattle.doc_tree.specs.TreeView.{elements_view, members_view}
use Rattle.schema_rules.specs.Assertions.{is_member}
use Rattle.schema_rules.proofs.required.are_members.Given as goal

abbrev pub invariant-loop-name : goal.invariant-loop-name
invariant-loop-name l = list_all (λ n. is_member n (members_view l.members.entries)) (elements_list (elements_view (drop l.name-index l.name-items))) ≡ list_all (λ n. is_member n (members_view l.members.entries)) (elements_list (elements_view l.name-items))
