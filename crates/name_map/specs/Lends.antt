-- The end of a map that lent a value.
use Rattle.std.specs.Prelude.{◌≡◌, ℕ, List, Option}
use Rattle.std.specs.BTreeMap.{is_at}
use Rattle.std.specs.Borrow.{Fml, LendsSo, MutBor, RattleType}
use Rattle.std.specs.Map.{set_value}
use Rattle.name_map.specs.Entries.{Entries, named}
use Rattle.name_map.specs.contracts.map.NameMap.{the_row}

-- n is m with the value w at the name, if m has the name
abbrev pub IsWritten : {X : Type 0} → List ℕ → Entries X → X → Entries X → Type 0
IsWritten name m w n = (n.entries ≡ set_value (is_at (named name)) m.entries w) × (n.capacity ≡ m.capacity)

-- m ends with the last value written through r at the name, and as it was if r is `None`
abbrev pub lends_value : (V : RattleType) → MutBor (Entries V.Denot) → List ℕ → Option (MutBor V.Denot) → Fml
lends_value V m name r = LendsSo (the_row V) V m r (λ n w. IsWritten name m.now w n) (λ n. n ≡ m.now)
