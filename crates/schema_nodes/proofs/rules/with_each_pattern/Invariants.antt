use Rattle.std.proofs.Common.{map}
use Rattle.doc_tree.specs.TreeView.{members_view}
use Rattle.schema_nodes.proofs.Patterning.{Adding}
use Rattle.schema_nodes.proofs.rules.with_each_pattern.Given as goal

abbrev pub invariant-loop-name : goal.invariant-loop-name
invariant-loop-name l = Adding (map (λ s. s.now) l.patterns) l.initial.rules.items (members_view l.named.entries) l.row (members_view l.name-iterator.a) l.name-iterator.b.rest.now l.rules.items
