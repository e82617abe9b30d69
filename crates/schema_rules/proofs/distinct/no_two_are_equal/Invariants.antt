use Rattle.std.proofs.Common.{◌≡◌, length}
use Rattle.doc_tree.specs.Lists.{elements_list}
use Rattle.doc_tree.specs.TreeView.{elements_view}
use Rattle.schema_rules.specs.Assertions.{are_distinct}
use Rattle.schema_rules.proofs.distinct.no_two_are_equal.Given as goal

abbrev pub invariant-firsts : goal.invariant-firsts
invariant-firsts l = are_distinct (elements_list (elements_view l.rest)) ≡ are_distinct (elements_list (elements_view l.items))

abbrev pub decreases-firsts : goal.decreases-firsts
decreases-firsts l = length l.rest
