-- Documents that differ at most at one location, or at several, and below them (RFC 6901 says what a location leads to).
use Rattle.std.specs.Prelude.{◌≡◌, ◌≢◌, ◌⊎◌, ⊤, ℕ, suc, ◌<◌, ◌≤◌, List, [], ◌∷◌, Option, Some, None}
use Rattle.doc_tree.specs.Doc.{Doc, list, object, Place, index, child}

-- both are lists, or both are objects
abbrev pub AreAlike : Doc → Doc → Type 0
AreAlike (list ds) (list es) = ⊤
AreAlike (object ms) (object ns) = ⊤
AreAlike _ _ = ⊥

-- each child at another place is the same
abbrev pub AgreeBeside : Place → Doc → Doc → Type 0
AgreeBeside p old new = (q : Place) → q ≢ p → child q old ≡ child q new

-- two children agree in this way, or neither is there; one may come or go if the location ends here
abbrev pub AtChild : List Place → (Doc → Doc → Type 0) → Option Doc → Option Doc → Type 0
AtChild ps Agree (Some d) (Some e) = Agree d e
AtChild ps Agree None None = ⊤
AtChild ps Agree _ _ = ps ≡ []

-- what a location with a first step leaves as it is: everything, or every other child and what its child leaves
abbrev pub AgreeOff : List Place → Doc → Doc → Type 0
AgreeOff [] old new = ⊤
AgreeOff (p ∷ ps) old new = (old ≡ new) ⊎ (AreAlike old new × AgreeBeside p old new × AtChild ps (AgreeOff ps) (child p old) (child p new))

-- each location in turn is one at which a document may become another
abbrev pub AgreeOffEach : List (List Place) → Doc → Doc → Type 0
AgreeOffEach [] old new = old ≡ new
AgreeOffEach (ps ∷ pss) old new = (mid : Doc) × AgreeOff ps old mid × AgreeOffEach pss mid new

-- one has an element more than the other, at the index: those before it are the same, and those after it follow
abbrev pub HasOneMore : ℕ → Doc → Doc → Type 0
HasOneMore n more fewer = ((k : ℕ) → k < n → child (index k) more ≡ child (index k) fewer) × ((k : ℕ) → n ≤ k → child (index (suc k)) more ≡ child (index k) fewer)

-- an element came to the index of a list, or went from there, so that those after it have another
abbrev pub IsShifted : Place → Doc → Doc → Type 0
IsShifted (index n) (list ds) (list es) = HasOneMore n (list es) (list ds) ⊎ HasOneMore n (list ds) (list es)
IsShifted _ _ _ = ⊥

-- two children agree in this way, or neither is there
abbrev pub AtBoth : (Doc → Doc → Type 0) → Option Doc → Option Doc → Type 0
AtBoth Agree (Some d) (Some e) = Agree d e
AtBoth Agree None None = ⊤
AtBoth Agree _ _ = ⊥

-- off the location both agree, and at its end an element came or went
abbrev pub AgreeButShifted : List Place → Doc → Doc → Type 0
AgreeButShifted [] old new = ⊤
AgreeButShifted (p ∷ []) old new = IsShifted p old new
AgreeButShifted (p ∷ q ∷ ps) old new = (old ≡ new) ⊎ (AgreeBeside p old new × AtBoth (AgreeButShifted (q ∷ ps)) (child p old) (child p new))
