-- A device of the code that knows the nodes of a document by numbers: it has the place of each node's children.
use Rattle.std.specs.Prelude.{◌≡◌, ◌≤◌, ◌+◌, ℕ, List, [], map, take, drop, get_or, length}
use Rattle.doc_tree.specs.Doc.{Doc}
use Rattle.path_select.specs.Nodes.{Located, child_at, children}
use Rattle.doc_tree.specs.TreeView.{view}
use Rattle.path_select.specs.Paths.{seen}
use Rattle.path_select.specs.declared.index.Index.{Index}
use Rattle.path_select.specs.declared.index.Span.{Span}

-- the children of a node, as nodes
abbrev pub children_at : Located → List Located
children_at u = map (child_at u.0) (children u.1)

-- the node of that number; the root if there is none
abbrev pub node_at : Doc → List Located → ℕ → Located
node_at root us n = get_or us n ([], root)

abbrev pub nodes_at : Doc → List Located → List ℕ → List Located
nodes_at root us ns = map (node_at root us) ns

-- the span has the node's children
abbrev pub HasChildren : List Located → Span → Located → Type 0
HasChildren us s u = (s.first + s.count ≤ length us) × (take s.count (drop s.first us) ≡ children_at u)

-- among the nodes are the root, with the number 0, and the children of each
abbrev pub IsIndexed : Doc → List Located → List Span → Span → Type 0
IsIndexed root us spans top =
    (node_at root us 0 ≡ ([], root)) × ((n : ℕ) → HasChildren us (get_or spans n top) (node_at root us n))

abbrev pub IsIndex : Index → Type 0
IsIndex x = IsIndexed (view x.root.now) (seen x.walk) x.spans.items x.top

-- the node of a number, and those of numbers, by an index
abbrev pub at_number : Index → ℕ → Located
at_number x n = node_at (view x.root.now) (seen x.walk) n

abbrev pub at_numbers : Index → List ℕ → List Located
at_numbers x ns = map (at_number x) ns
