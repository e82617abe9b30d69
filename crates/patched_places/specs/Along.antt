-- For the clauses within the crate: the places that tokens lead along in a document (RFC 6901, section 4), and that of a child which came or went at their end.
use Rattle.std.specs.Prelude.{ℕ, suc, ◌-◌, Bool, List, [], ◌∷◌, Option, Some, None, option_map, option_and_then, option_to_list, if◌then◌else◌, nat_eq}
use Rattle.std.specs.Str.{bytes_eq}
use Rattle.doc_tree.specs.Doc.{Doc, list, object, Place, name, index, child}
use Rattle.doc_edits.specs.Edit.{Token, Tokens, dash, elements_len, index_below}
use Rattle.patched_places.specs.declared.ends.End.{End}

-- the place that a token names: any name in an object, the index of an element in a list
abbrev pub place_named : Token → Doc → Option Place
place_named t (object ms) = Some (name t)
place_named t (list ds) = option_map index (index_below (elements_len ds) t)
place_named t _ = None

-- on to the child at the place
abbrev pub on_child : Place → Option Doc → (Doc → List Place) → List Place
on_child p None rest = []
on_child p (Some c) rest = p ∷ rest c

abbrev pub on_place : Option Place → Doc → (Doc → List Place) → List Place
on_place None d rest = []
on_place (Some p) d rest = on_child p (child p d) rest

-- as far as they lead, and then what is at their end
abbrev pub places_along : (Doc → List Place) → Tokens → Doc → List Place
places_along end [] d = end d
places_along end (t ∷ ts) d = on_place (place_named t d) d (places_along end ts)

-- the index after the first n elements, if the token names it
abbrev pub index_behind : ℕ → Token → Option ℕ
index_behind n t = option_and_then (λ i. if nat_eq i n then Some i else None) (index_below (suc n) t)

-- among n elements the index of the last, if an addition at the token put it after the others
abbrev pub index_added : ℕ → Token → Option ℕ
index_added n t = if bytes_eq t dash then Some (n - 1) else index_behind (n - 1) t

-- by whether it is there, or was after the n
abbrev pub end_index : Bool → ℕ → Token → Option ℕ
end_index there n t = if there then index_added n t else index_behind n t

-- the place of a child that came or went, if each other child stays at its place
abbrev pub end_place : End → Doc → Option Place
end_place e (object ms) = Some (name e.token.now)
end_place e (list ds) = option_map index (end_index e.is_there (elements_len ds) e.token.now)
end_place e _ = None

abbrev pub end_places : Option End → Doc → List Place
end_places None d = []
end_places (Some e) d = option_to_list (end_place e d)
