-- For the clauses within the crate: the marks of a walk over a graph: places that it has not seen, those it is still on
-- the way from, and those it is done with.
use Rattle.std.specs.Prelude.{◌≡◌, ◌≤◌, ℕ, suc, Bool, true, false, List, length, slice_index_or, count_by}
use Rattle.schema_graph.specs.Walks.{In, Walk}
use Rattle.schema_graph.specs.Numbered.{Graph, row_at}
use Rattle.schema_graph.specs.declared.walk.Mark.{Mark}
use Rattle.schema_graph.specs.declared.walk.Mark.TheVariants.{Unseen, Open, Done}

-- the mark of a place
abbrev pub mark : List Mark → ℕ → Mark
mark m a = slice_index_or m a Unseen

abbrev pub is_unseen : Mark → Bool
is_unseen Unseen = true
is_unseen _ = false

-- how many are unseen
abbrev pub unseen : List Mark → ℕ
unseen m = count_by is_unseen m

-- edges lead from done places to done places, and no walk comes back to one
pub record IsSettled (g : Graph) (m : List Mark) : Type 0 where
  pub closed : (a b : ℕ) → mark m a ≡ Done → In b (row_at g a) → mark m b ≡ Done
  pub no_loop : (a n : ℕ) → mark m a ≡ Done → Walk (row_at g) a a (suc n) → ⊥

-- from each open place a walk leads to this one
pub record LeadTo (g : Graph) (m : List Mark) (v : ℕ) : Type 0 where
  pub walk : (a : ℕ) → mark m a ≡ Open → (n : ℕ) × Walk (row_at g) a v n

-- done places stay done, the open ones are the same, and no more are unseen
pub record Goes (old new : List Mark) : Type 0 where
  pub done : (a : ℕ) → mark old a ≡ Done → mark new a ≡ Done
  pub opened : (a : ℕ) → mark new a ≡ Open → mark old a ≡ Open
  pub stays : (a : ℕ) → mark old a ≡ Open → mark new a ≡ Open
  pub len : length new ≡ length old
  pub fewer : unseen new ≤ unseen old
