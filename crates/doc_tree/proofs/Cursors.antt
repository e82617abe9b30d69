-- The next member of a walk.
use Rattle.std.proofs.Common.{◌≡◌, ◌∙◌, ℕ, List, [], ◌∷◌, Some, String, string_bytes, slice_get, ap, sym}
use Rattle.std.specs.declared.alloc.Global.{Global}
use Rattle.doc_tree.specs.Cursor.{IsNext}
use Rattle.doc_tree.specs.TreeView.{members_view}
use Rattle.doc_tree.specs.declared.tree.Tree.{Tree}

-- the first entry has the name exactly where the next member has it
pub next_named : (entries : List (String Global × Tree)) (p : String Global × Tree) → slice_get entries 0 ≡ Some p → (name : List ℕ)
    → (string_bytes p.0 ≡ name → IsNext name (members_view entries)) × (IsNext name (members_view entries) → string_bytes p.0 ≡ name)
next_named [] p is name = absurd (cc)
next_named (x ∷ xs) p is name =
    let same : x ≡ p = cc in
    let key = ap (λ (y : String Global × Tree). string_bytes y.0) same in
    (λ e. key ∙ e, λ e. sym key ∙ e)
