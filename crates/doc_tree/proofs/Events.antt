-- The events of a document.
use Rattle.std.proofs.Common.{◌≡◌, ℤ, pos, negsuc, List, [], ◌∷◌, suc, length, Bool, false, ◌||◌, refl, ap}
use Rattle.serde_json.specs.Data.{number}
use Rattle.serde_json.specs.Events.{items_len, members_len}
use Rattle.serde_json.specs.Find.{of_integer}
use Rattle.serde_json.specs.Written.{has_float, items_have_float, members_have_float}
use Rattle.doc_tree.specs.Doc.{Doc, null, boolean, int, text, list, object, Elements, no_elements, element, Members, no_members, member}
use Rattle.doc_tree.specs.Text.{data_of, items_of, members_of}
use Rattle.doc_tree.specs.TreeView.{elements_view, members_view}
use Rattle.doc_tree.specs.declared.tree.Tree.{Tree}
use Rattle.doc_tree.proofs.Views.{Entry}

pub items_len-elements_view : (ts : List Tree) → items_len (items_of (elements_view ts)) ≡ length ts
items_len-elements_view [] = refl
items_len-elements_view (t ∷ ts) = ap suc (items_len-elements_view ts)

pub members_len-members_view : (es : List Entry) → members_len (members_of (members_view es)) ≡ length es
members_len-members_view [] = refl
members_len-members_view (e ∷ es) = ap suc (members_len-members_view es)

neither : (a b : Bool) → a ≡ false → b ≡ false → (a || b) ≡ false
neither a b h k = rw h k

has_float-of_integer : (z : ℤ) → has_float (number (of_integer z)) ≡ false
has_float-of_integer (pos n) = refl
has_float-of_integer (negsuc n) = refl

mutual
  pub has_float-data_of : (d : Doc) → has_float (data_of d) ≡ false
  has_float-data_of null = refl
  has_float-data_of (boolean b) = refl
  has_float-data_of (int z) = has_float-of_integer z
  has_float-data_of (text s) = refl
  has_float-data_of (list ds) = items_have_float-items_of ds
  has_float-data_of (object ms) = members_have_float-members_of ms

  items_have_float-items_of : (ds : Elements) → items_have_float (items_of ds) ≡ false
  items_have_float-items_of no_elements = refl
  items_have_float-items_of (element d ds) = neither _ _ (has_float-data_of d) (items_have_float-items_of ds)

  members_have_float-members_of : (ms : Members) → members_have_float (members_of ms) ≡ false
  members_have_float-members_of no_members = refl
  members_have_float-members_of (member k d ms) = neither _ _ (has_float-data_of d) (members_have_float-members_of ms)
