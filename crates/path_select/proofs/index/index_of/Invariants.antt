use Rattle.std.proofs.Common.{◌≡◌, ◌≤◌, ◌-◌, [], length}
use Rattle.doc_tree.specs.TreeView.{view}
use Rattle.path_select.specs.Paths.{seen, stand}
use Rattle.path_select.specs.Indexed.{HasChildren, node_at}
use Rattle.path_select.proofs.Indexes.{Spanned}
use Rattle.path_select.proofs.index.index_of.Given as goal

abbrev pub invariant-loop-number : goal.invariant-loop-number
invariant-loop-number l =
    stand (length l.walk.trail.items) l.walk.listed.items
    × (l.number ≤ length (seen l.walk))
    × (length l.spans.items ≡ l.number)
    × (node_at (view l.root) (seen l.walk) 0 ≡ ([], view l.root))
    × HasChildren (seen l.walk) l.top ([], view l.root)
    × Spanned (view l.root) (seen l.walk) l.spans.items l.top l.number

-- a node's number is below the length of the list, which 64 bits hold
abbrev pub decreases-loop-number : goal.decreases-loop-number
decreases-loop-number l = 0xffff_ffff_ffff_ffff - l.number
