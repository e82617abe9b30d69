-- The contents of a sector that a crash may keep.
use Rattle.std.specs.Prelude.{ℕ, ◌-◌, min, List, [], ◌∷◌, length, slice_index_or, Bool, true, false, if◌then◌else◌, nat_eq}
use Rattle.sector_device.specs.declared.damage.Damage.{Damage}

-- of these contents pick 0 takes the one after the last sync, pick k the k-th since, and a pick past the last one the last
abbrev pub picked_of : ℕ → List (List ℕ) → List ℕ
picked_of pick contents = slice_index_or contents (min pick (length contents - 1)) []

-- the last damage that is named for sector i, or this content
abbrev pub damaged_to : ℕ → List Damage → List ℕ → List ℕ
damaged_to i [] content = content
damaged_to i (damage ∷ later) content = damaged_to i later (if nat_eq damage.at i then damage.content else content)

-- what a crash leaves in it: of a sector that is not at risk no damage
abbrev pub torn_of : Bool → ℕ → List Damage → List ℕ → List ℕ
torn_of true i damage content = damaged_to i damage content
torn_of false i damage content = content
