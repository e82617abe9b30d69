-- What the code holds beside the documents that it stands for.
use Rattle.std.proofs.Common.{◌≡◌, ℕ, suc, List, [], ◌∷◌, length, String, Global, Some, None, option_map, string_bytes, refl, ap, ◌∙◌, sym, Equal, nat_cmp}
use Rattle.std.proofs.lemmas.Map.Lookups.{exact_bytes}
use Rattle.std.specs.BTreeMap.{is_at}
use Rattle.std.specs.Cmp.Lexicographic.{slice_cmp}
use Rattle.std.specs.Map.{lookup}
use Rattle.doc_tree.proofs.Views.{view-lookup}
use Rattle.doc_tree.specs.Doc.{name, get_member}
use Rattle.doc_tree.specs.TreeView.{view, elements_view, members_view}
use Rattle.doc_tree.specs.declared.tree.Tree.{Tree}
use Rattle.path_select.specs.Selectors.{elements_count, found}
use Rattle.path_select.specs.Comparing.{members_count}

pub elements_count-elements_view : (ts : List Tree) → elements_count (elements_view ts) ≡ length ts
elements_count-elements_view [] = refl
elements_count-elements_view (t ∷ ts) = ap suc (elements_count-elements_view ts)

pub members_count-members_view : (es : List (String Global × Tree)) → members_count (members_view es) ≡ length es
members_count-members_view [] = refl
members_count-members_view (e ∷ es) = ap suc (members_count-members_view es)

-- the entry at a name, with the name as the map has it
pub found_some : (k : List ℕ) (key : String Global) (t : Tree) (es : List (String Global × Tree)) → slice_cmp nat_cmp k (string_bytes key) ≡ Equal → Some t ≡ lookup (is_at (λ n. slice_cmp nat_cmp k (string_bytes n))) es
    → (name (string_bytes key), view t) ∷ [] ≡ found (name k) (get_member k (members_view es))
found_some k key t es same is =
    ap (λ b. (name b, view t) ∷ []) (sym (exact_bytes k (string_bytes key) same)) ∙ ap (λ o. found (name k) (option_map view o)) is ∙ ap (found (name k)) (view-lookup k es)

pub found_none : (k : List ℕ) (es : List (String Global × Tree)) → None ≡ lookup (is_at (λ n. slice_cmp nat_cmp k (string_bytes n))) es
    → [] ≡ found (name k) (get_member k (members_view es))
found_none k es is = ap (λ o. found (name k) (option_map view o)) is ∙ ap (found (name k)) (view-lookup k es)
