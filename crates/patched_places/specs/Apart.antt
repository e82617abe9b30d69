-- For the clauses within the crate: two places of which neither holds the other, and a value that comes to the second leaves the way to the first.
use Rattle.std.specs.Prelude.{◌≡◌, ◌≢◌, ◌⊎◌, ⊤, [], ◌∷◌, Some}
use Rattle.doc_tree.specs.Doc.{Doc, object}
use Rattle.doc_pointer.specs.Place.{child_named}
use Rattle.doc_edits.specs.Edit.{Tokens}

abbrev pub IsObject : Doc → Type 0
IsObject (object ms) = ⊤
IsObject _ = ⊥

-- what comes at the end of the tokens, from this child of the document on, leaves each other child at its place
abbrev pub LeavesOthers : Tokens → Doc → Type 0
LeavesOthers [] d = IsObject d
LeavesOthers (t ∷ ts) d = ⊤

-- their tokens part: at what holds both children there, the second leaves the first at its place
abbrev pub ArePartedIn : Tokens → Tokens → Doc → Type 0
ArePartedIn [] ts d = ⊥
ArePartedIn (s ∷ ss) [] d = ⊥
ArePartedIn (s ∷ ss) (t ∷ ts) d = ((s ≢ t) × LeavesOthers ts d) ⊎ ((s ≡ t) × (c : Doc) × (child_named t d ≡ Some c) × ArePartedIn ss ts c)
