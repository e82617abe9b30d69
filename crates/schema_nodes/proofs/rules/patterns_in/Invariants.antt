use Rattle.std.proofs.Common.{map}
use Rattle.doc_tree.specs.Lists.{names_list}
use Rattle.doc_tree.specs.TreeView.{members_view}
use Rattle.schema_nodes.proofs.Patterning.{Finding}
use Rattle.schema_nodes.proofs.rules.patterns_in.Given as goal

abbrev pub invariant-loop-name : goal.invariant-loop-name
invariant-loop-name l = Finding (map (λ s. s.now) l.patterns) (names_list (members_view l.members.entries)) (names_list (members_view l.name-iterator)) l.found.items
