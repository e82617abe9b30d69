-- A graph of numbered places, by the row of numbers that each leads to.
use Rattle.std.specs.Prelude.{ℕ, zero, suc, ◌<◌, List, [], ◌∷◌, length}
use Rattle.std.specs.Global.{Vec}
use Rattle.schema_graph.specs.Walks.{In}
use Rattle.schema_graph.specs.Loops.{HasLoop}

abbrev pub Graph : Type 0
Graph = List (Vec ℕ)

-- the places that a place leads to; none for a number past the last
abbrev pub row_at : Graph → ℕ → List ℕ
row_at [] a = []
row_at (r ∷ g) zero = r.items
row_at (r ∷ g) (suc a) = row_at g a

-- n numbers from a on
abbrev pub numbers_from : ℕ → ℕ → List ℕ
numbers_from a zero = []
numbers_from a (suc n) = a ∷ numbers_from (suc a) n

-- the numbers of all places
abbrev pub numbers_of : Graph → List ℕ
numbers_of g = numbers_from 0 (length g)

-- each place leads to places
abbrev pub IsClosed : Graph → Type 0
IsClosed g = (a b : ℕ) → In b (row_at g a) → b < length g

-- some list of places is a loop
abbrev pub IsCyclic : Graph → Type 0
IsCyclic g = HasLoop (row_at g) (numbers_of g)
