-- An order of the places of a graph: each comes after those that it leads to.
use Rattle.std.specs.Prelude.{◌≡◌, ◌<◌, ℕ, Bool, true, false, List, length, slice_index_or, count_by}
use Rattle.schema_graph.specs.Walks.{In}
use Rattle.schema_graph.specs.Numbered.{Graph, row_at, IsCyclic}
use Rattle.schema_graph.specs.Marks.{mark, IsSettled}
use Rattle.schema_graph.specs.declared.walk.Mark.{Mark}
use Rattle.schema_graph.specs.declared.walk.Mark.TheVariants.{Done}
use Rattle.schema_graph.specs.declared.walk.Walk.{Walk}

-- the number at that index
abbrev pub at : List ℕ → ℕ → ℕ
at ns i = slice_index_or ns i 0

-- each place is once in the list, at the index that is its rank, and each edge leads to a lower rank
pub record IsOrder (g : Graph) (places ranks : List ℕ) : Type 0 where
  pub many_places : length places ≡ length g
  pub many_ranks : length ranks ≡ length g
  pub placed : (a : ℕ) → a < length g → (at ranks a < length g) × (at places (at ranks a) ≡ a)
  pub ranked : (q : ℕ) → q < length g → (at places q < length g) × (at ranks (at places q) ≡ q)
  pub falls : (a b : ℕ) → In b (row_at g a) → at ranks b < at ranks a
  pub no_loop : IsCyclic g → ⊥

-- ---- while the walk is under way

abbrev pub is_done : Mark → Bool
is_done Done = true
is_done _ = false

-- the same of the places that are done, which are the first `count` of the list
pub record ArePlaced (g : Graph) (m : List Mark) (places ranks : List ℕ) (count : ℕ) : Type 0 where
  pub many : count ≡ count_by is_done m
  pub placed : (a : ℕ) → mark m a ≡ Done → (at ranks a < count) × (at places (at ranks a) ≡ a)
  pub ranked : (q : ℕ) → q < count → (mark m (at places q) ≡ Done) × (at ranks (at places q) ≡ q)
  pub falls : (a b : ℕ) → mark m a ≡ Done → In b (row_at g a) → at ranks b < at ranks a

pub record IsWalk (g : Graph) (w : Walk) : Type 0 where
  pub settled : IsSettled g w.marks.items
  pub placed : ArePlaced g w.marks.items w.places.items w.ranks.items w.count
  pub many_marks : length w.marks.items ≡ length g
  pub many_places : length w.places.items ≡ length g
  pub many_ranks : length w.ranks.items ≡ length g
