use Rattle.std.proofs.Common.{◌≡◌, drop, take}
use Rattle.doc_tree.specs.TreeView.{view}
use Rattle.path_select.specs.Indexed.{nodes_at}
use Rattle.path_select.specs.Paths.{seen}
use Rattle.path_select.proofs.numbers.numbers_of_children.Given as goal

abbrev pub invariant-loop-place : goal.invariant-loop-place
invariant-loop-place l =
    nodes_at (view l.index.root.now) (seen l.index.walk) l.found.items ≡ take l.place (drop l.span.first (seen l.index.walk))
