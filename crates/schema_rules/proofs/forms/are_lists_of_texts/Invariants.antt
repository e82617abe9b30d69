use Rattle.std.proofs.Common.{◌≡◌}
use Rattle.std.specs.List.{list_all}
use Rattle.doc_tree.specs.Lists.{values_list}
use Rattle.doc_tree.specs.TreeView.{members_view}
use Rattle.schema_rules.specs.Forms.{is_text, is_list_of_distinct}
use Rattle.schema_rules.proofs.forms.are_lists_of_texts.Given as goal

abbrev pub invariant-loop-value : goal.invariant-loop-value
invariant-loop-value l = list_all (is_list_of_distinct is_text) (values_list (members_view l.value-iterator)) ≡ list_all (is_list_of_distinct is_text) (values_list (members_view l.members.entries))
