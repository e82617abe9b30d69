use Rattle.std.proofs.Common.{◌≡◌, ◌++◌, map}
use Rattle.doc_tree.specs.Lists.{names_list}
use Rattle.doc_tree.specs.TreeView.{members_view}
use Rattle.doc_schema.proofs.patterns.with_each_name.Given as goal

abbrev pub invariant-loop-name : goal.invariant-loop-name
invariant-loop-name l = map (λ s. s.now) l.found.items ++ names_list (members_view l.name-iterator) ≡ map (λ s. s.now) l.initial.found.items ++ names_list (members_view l.members.entries)
