-- For the clauses within the crate: a list in which an element came to an index, or went from there.
use Rattle.std.specs.Prelude.{◌≡◌, ℕ, suc, [], ◌∷◌, ◌++◌, Bool, true, false, Option, Some, None, if◌then◌else◌}
use Rattle.std.specs.Str.{bytes_eq}
use Rattle.doc_tree.specs.Doc.{Doc, list, Elements}
use Rattle.doc_pointer.specs.Place.{resolve}
use Rattle.doc_edits.specs.Change.{tokens_of}
use Rattle.doc_edits.specs.Edit.{Token, Tokens, dash, elements_len, index_below}
use Rattle.patched_places.specs.declared.shift.Shift.{Shift}

-- the index that the token names: of the element that is there among n, or was there before n were left
abbrev pub shifted_index : Bool → ℕ → Token → Option ℕ
shifted_index true n t = if bytes_eq t dash then None else index_below n t
shifted_index false n t = index_below (suc n) t

-- the tokens lead to a list, and the last names the index in it
pub record IsShiftAt (path : Tokens) (there : Bool) (s : Shift) (made : Doc) : Type 0 where
  pub token : Token
  pub elements : Elements
  pub path_is : path ≡ tokens_of s.holder.now ++ token ∷ []
  pub holds : resolve (tokens_of s.holder.now) made ≡ Some (list elements)
  pub named : shifted_index there (elements_len elements) token ≡ Some s.index

-- the tokens lead to a list of that many elements
abbrev pub IsLenAt : Tokens → Doc → ℕ → Type 0
IsLenAt ts d n = (ds : Elements) × (resolve ts d ≡ Some (list ds)) × (n ≡ elements_len ds)
