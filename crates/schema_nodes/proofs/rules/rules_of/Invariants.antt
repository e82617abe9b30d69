use Rattle.doc_tree.specs.TreeView.{view, members_view}
use Rattle.schema_nodes.specs.Fits.{known_near}
use Rattle.schema_nodes.proofs.Fitting.{Fitting}
use Rattle.schema_nodes.proofs.rules.rules_of.Given as goal

abbrev pub invariant-loop-name : goal.invariant-loop-name
invariant-loop-name l = Fitting l.targets l.ranks (view l.root) (known_near l.near) (members_view l.name-iterator.a) l.name-iterator.b.rest.now (members_view l.members.entries) l.rows l.rules.items
