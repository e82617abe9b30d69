-- The view of a `NameMap`, as names with their values and a capacity, and its entries by name.
use Rattle.std.specs.Prelude.{◌≡◌, ℕ, suc, ◌-◌, List, [], ◌∷◌, length, slice_get, Option, IfSome, Result, Ok, Err, String, string_bytes, string_cmp}
use base.Stored.{Coded, coded_via, coded×, coded_list, coded_ℕ}
use denote.RattleType.{RattleType}
use Rattle.std.specs.contracts.alloc.Global as heap
use Rattle.std.specs.contracts.string.String as text
use Rattle.std.specs.contracts.impls.GlobalAllocator.TheImpl.{ghosts}
use Rattle.std.specs.declared.alloc.Global.{Global}
use Rattle.std.specs.declared.cmp.Ordering.{Ordering}
use Rattle.std.specs.declared.cmp.Ordering.TheVariants.{Less}
use Rattle.std.specs.Cmp.Lexicographic.{slice_cmp}
use Rattle.std.specs.List.Sorted.{IsStrictlySortedBy}
use Rattle.std.specs.Ordering.{match_ordering, nat_cmp}
use Rattle.std.specs.Map.{keys_of, lookup, remove_entry}
use Rattle.std.specs.BTreeMap.{is_at, insert_entry}

-- a name, as the logic holds it
abbrev pub name_row : RattleType
name_row = text.the_row heap.the_row ghosts

-- the names with their values, in order, and for how many there is room
pub record Entries (X : Type 0) : Type 0 where
  pub entries : List (String Global × X)
  pub capacity : ℕ

-- which is stored as its parts
abbrev pub entries_code : {X : Type 0} → Coded X → Coded (Entries X)
entries_code x = coded_via (coded× (coded_list (coded× name_row.coded x)) coded_ℕ) (λ m. (m.entries, m.capacity)) (λ a b e i. record { entries = (e i).0; capacity = (e i).1 })

-- how a name compares to a key
abbrev pub named : List ℕ → String Global → Ordering
named name k = slice_cmp nat_cmp name (string_bytes k)

-- the index one further, whichever the variant
abbrev pub one_further : Result ℕ ℕ → Result ℕ ℕ
one_further (Ok i) = Ok (suc i)
one_further (Err i) = Err (suc i)

module _ {X : Type 0} where
  -- the names rise
  abbrev pub IsOrdered : Entries X → Type 0
  IsOrdered m = IsStrictlySortedBy string_cmp (keys_of m.entries)

  -- the name comes after that of the last entry, if there is one
  abbrev pub IsLast : List ℕ → Entries X → Type 0
  IsLast name m = IfSome (slice_get m.entries (length m.entries - 1)) (λ e. slice_cmp nat_cmp (string_bytes e.0) name ≡ Less)

  -- the value at the name
  abbrev pub entry_named : List ℕ → Entries X → Option X
  entry_named name m = lookup (is_at (named name)) m.entries

  -- the entries with that value at the name
  abbrev pub put : Entries X → String Global → X → List (String Global × X)
  put m k v = insert_entry string_cmp m.entries k v

  -- the entries without that name
  abbrev pub without : List ℕ → Entries X → List (String Global × X)
  without name m = remove_entry (is_at (named name)) m.entries

  -- the index of the first entry that the name is not above: `Ok` if it has the name, and else `Err`
  abbrev pub seek : (String Global → Ordering) → List (String Global × X) → Result ℕ ℕ
  seek compare [] = Err 0
  seek compare (e ∷ es) = match_ordering (compare e.0) (Err 0) (Ok 0) (one_further (seek compare es))
