-- A loop: a list of places, each of which leads to the one after it, that ends where it begins.
use Rattle.std.specs.Prelude.{◌≡◌, ◌≤◌, ◌+◌, List, [], ◌∷◌, length, Option, Some, None, ⊤}
use Rattle.schema_graph.specs.Walks.{In}

-- what a list begins with
abbrev pub begin : {A : Type 0} → List A → Option A
begin [] = None
begin (a ∷ walk) = Some a

-- what it ends with
abbrev pub end : {A : Type 0} → List A → Option A
end [] = None
end (a ∷ []) = Some a
end (a ∷ b ∷ walk) = end (b ∷ walk)

-- neighbours in the list are joined by an edge
abbrev pub AreJoined : {A : Type 0} → (A → List A) → List A → Type 0
AreJoined next [] = ⊤
AreJoined next (a ∷ []) = ⊤
AreJoined next (a ∷ b ∷ walk) = In b (next a) × AreJoined next (b ∷ walk)

-- at least two of the places, at most one more than there are, the last one the first again, and neighbours joined
pub record IsLoop {A : Type 0} (next : A → List A) (places walk : List A) : Type 0 where
  pub at_least : 2 ≤ length walk
  pub at_most : length walk ≤ length places + 1
  pub among : (a : A) → In a walk → In a places
  pub comes_back : begin walk ≡ end walk
  pub joined : AreJoined next walk

-- some list of places is a loop
abbrev pub HasLoop : {A : Type 0} → (A → List A) → List A → Type 0
HasLoop next places = (walk : List _) × IsLoop next places walk
