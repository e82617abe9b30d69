-- For the clauses within the crate: the rows of a query's reply.
use Rattle.std.specs.Prelude.{◌≡◌, ℕ, nat_lt, Bool, List, ◌++◌, map, codes, string_bytes, Some}
use Rattle.std.specs.List.{slice_get}
use Rattle.serde_json.specs.Written.{comma_if}
use Rattle.doc_tree.specs.Doc.{Doc, text, object, member, no_members}
use Rattle.doc_tree.specs.Text.{elements_text, text_of}
use Rattle.doc_tree.specs.TreeView.{view, elements_of}
use Rattle.path_eval.specs.Nodes.{Located}
use Rattle.protocol.specs.Reply.{node_object}
use Rattle.protocol.specs.declared.rows.Row.{Row}

-- a row as the object that shows its node
abbrev pub row_object : Row → Doc
row_object r = object (member (codes "path") (text (string_bytes r.path)) (member (codes "value") (view r.value.now) no_members))

-- the text of the node of that number
abbrev pub IsRowOf : List Located → ℕ → List ℕ → Type 0
IsRowOf nodes number row = (n : Located) × (slice_get nodes number ≡ Some n) × (row ≡ text_of (node_object n))

-- a line with that node after it, after a comma unless it is the first
abbrev pub AddsRow : List Located → ℕ → List ℕ → List ℕ → Type 0
AddsRow nodes number line longer = (n : Located) × (slice_get nodes number ≡ Some n) × (longer ≡ line ++ (comma_if (nat_lt 0 number) ++ text_of (node_object n)))

-- what a line has after the rows that were written; `later` says whether there are some
abbrev pub rows_left : Bool → List Located → List ℕ
rows_left later nodes = elements_text later (elements_of (map node_object nodes)) ++ codes ",\"ok\":true}\n"
