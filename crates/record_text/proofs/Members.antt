-- The first member of an object.
use Rattle.std.proofs.Common.{◌≡◌, ℕ, List, [], ◌∷◌, Some, String, string_bytes, slice_get}
use Rattle.std.specs.declared.alloc.Global.{Global}
use Rattle.doc_tree.specs.Doc.{Doc, Members, member}
use Rattle.doc_tree.specs.TreeView.{members_view}
use Rattle.doc_tree.specs.declared.tree.Tree.{Tree}

pub first_named : (entries : List (String Global × Tree)) (p : String Global × Tree) → slice_get entries 0 ≡ Some p
    → (k : List ℕ) (d : Doc) (ms : Members) → members_view entries ≡ member k d ms → string_bytes p.0 ≡ k
first_named [] p is k d ms e = absurd (cc)
first_named (x ∷ xs) p is k d ms e = cc
