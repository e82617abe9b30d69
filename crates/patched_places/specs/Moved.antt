-- For the clauses within the crate: the places of a move.
use Rattle.std.specs.Prelude.{◌≡◌, List, [], ◌∷◌, ◌++◌, true, false, Some}
use Rattle.doc_tree.specs.Doc.{Doc, Place}
use Rattle.doc_edits.specs.Change.{tokens_of}
use Rattle.doc_edits.specs.Edit.{Tokens}
use Rattle.patched_places.specs.Along.{end_places, places_along}
use Rattle.patched_places.specs.declared.ends.Moved.{Moved}

-- what names the value as it goes, and what names it as it comes
pub record AreEndsOf (from path : Tokens) (m : Moved) : Type 0 where
  pub from_is : from ≡ tokens_of m.from.now ++ m.gone.token.now ∷ []
  pub goes : m.gone.is_there ≡ false
  pub path_is : path ≡ tokens_of m.path.now ++ m.came.token.now ∷ []
  pub comes : m.came.is_there ≡ true

-- the location of what went, and then of what came, in the document that was made
abbrev pub moved_places : Moved → Doc → List (List Place)
moved_places m made = places_along (end_places (Some m.gone)) (tokens_of m.from.now) made ∷ places_along (end_places (Some m.came)) (tokens_of m.path.now) made ∷ []
