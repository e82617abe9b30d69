-- The places that an operation leaves as they are, for the laws.
use Rattle.std.specs.Prelude.{List, [], ◌∷◌, Bool, true, false, ◌&&◌, if◌then◌else◌}
use Rattle.std.specs.Str.{bytes_eq}
use Rattle.doc_edits.specs.Edit.{Tokens}
use Rattle.doc_edits.specs.Operation.{Operation, add, remove, replace, move, copy, test}

-- the tokens part from the place's before its last one: they lead past the object or array that holds the place
abbrev pub leads_past : Tokens → Tokens → Bool
leads_past [] ks = false
leads_past (t ∷ []) ks = false
leads_past (t ∷ u ∷ us) [] = false
leads_past (t ∷ u ∷ us) (k ∷ ks) = if bytes_eq t k then leads_past (u ∷ us) ks else true

-- the tokens part from the place's: neither place is in the other
abbrev pub is_apart : Tokens → Tokens → Bool
is_apart [] ks = false
is_apart (t ∷ ts) [] = false
is_apart (t ∷ ts) (k ∷ ks) = if bytes_eq t k then is_apart ts ks else true

-- the operation changes nothing at the place: elements beside one that comes or goes may move
abbrev pub leaves : Operation → Tokens → Bool
leaves (add path v) ks = leads_past path ks
leaves (remove path) ks = leads_past path ks
leaves (replace path v) ks = is_apart path ks
leaves (move from path) ks = leads_past from ks && leads_past path ks
leaves (copy from path) ks = leads_past path ks
leaves (test path v) ks = true

-- each of the operations changes nothing there
abbrev pub leave : List Operation → Tokens → Bool
leave [] ks = true
leave (o ∷ os) ks = leaves o ks && leave os ks
