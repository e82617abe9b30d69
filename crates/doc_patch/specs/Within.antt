-- The place below which a patch changes a document, and documents that differ below one place alone.
use Rattle.std.specs.Prelude.{◌≡◌, ◌⊎◌, ◌↔◌, ⊤, List, [], ◌∷◌, Bool, true, false, ◌&&◌, Option, Some, None, Ok}
use Rattle.std.specs.Str.{bytes_eq}
use Rattle.doc_tree.specs.Doc.{Doc}
use Rattle.doc_pointer.specs.Place.{child_named}
use Rattle.doc_edits.specs.Edit.{Tokens, with_child}
use Rattle.doc_edits.specs.Operation.{Operation, add, remove, replace, move, copy, test}
use Rattle.doc_patch.specs.Patch.{patch}

-- the second is the first with another value at the place, and both have a value there
abbrev pub DiffersWithin : Tokens → Doc → Doc → Type 0
DiffersWithin [] d e = ⊤
DiffersWithin (t ∷ ts) d e = (c : Doc) × (new : Doc) × (child_named t d ≡ Some c) × (e ≡ with_child t new d) × DiffersWithin ts c new

-- or nothing changed
abbrev pub KeepsBut : Tokens → Doc → Doc → Type 0
KeepsBut ts d e = (d ≡ e) ⊎ DiffersWithin ts d e

-- each document that they are made of stays the same
abbrev pub Unchanging : List Operation → Type 0
Unchanging os = (d e : Doc) → patch os d ≡ Ok e → d ≡ e

-- the place of the object or array that holds the place; the root holds itself
abbrev pub holder : Tokens → Tokens
holder [] = []
holder (t ∷ []) = []
holder (t ∷ u ∷ us) = t ∷ holder (u ∷ us)

-- the places below which an operation changes the document: what comes or goes changes its holder
abbrev pub reaches : Operation → List Tokens
reaches (add path v) = holder path ∷ []
reaches (remove path) = holder path ∷ []
reaches (replace path v) = path ∷ []
reaches (move from path) = holder from ∷ holder path ∷ []
reaches (copy from path) = holder path ∷ []
reaches (test path v) = []

-- the second place is the first, or is in it
abbrev pub leads_to : Tokens → Tokens → Bool
leads_to [] us = true
leads_to (t ∷ ts) [] = false
leads_to (t ∷ ts) (u ∷ us) = bytes_eq t u && leads_to ts us

-- all these places are
abbrev pub leads_to_each : Tokens → List Tokens → Bool
leads_to_each ts [] = true
leads_to_each ts (us ∷ more) = leads_to ts us && leads_to_each ts more

-- all that the operations reach
abbrev pub holds_all : Tokens → List Operation → Bool
holds_all ts [] = true
holds_all ts (o ∷ os) = leads_to_each ts (reaches o) && holds_all ts os

-- ---- a place that narrows, operation by operation

-- the tokens lead to the place, if there is one
abbrev pub LeadsToFound : Tokens → Option Tokens → Type 0
LeadsToFound ts None = ⊤
LeadsToFound ts (Some us) = leads_to ts us ≡ true

-- what leads to the new place is what leads to the old one, and to all that the operation reaches
abbrev pub Narrows : Option Tokens → Option Tokens → Operation → Type 0
Narrows new old o = (ts : Tokens) → (LeadsToFound ts new ↔ (LeadsToFound ts old × (leads_to_each ts (reaches o) ≡ true)))

-- what leads to the result is what leads to the place that was found, and to the other
abbrev pub IsWithin : Tokens → Option Tokens → Tokens → Type 0
IsWithin result found place = (ts : Tokens) → ((leads_to ts result ≡ true) ↔ (LeadsToFound ts found × (leads_to ts place ≡ true)))
