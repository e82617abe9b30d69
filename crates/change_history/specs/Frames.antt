-- The frames of transactions in memory.
use Rattle.std.specs.Prelude.{◌≡◌, ◌≤◌, ℕ, List, Option, None, Some, drop, length, map, Vec, ⊤}
use Rattle.std.specs.Arc.{arc_value}
use Rattle.std.specs.Global.{Global}
use Rattle.std.specs.List.{flat_map}
use Rattle.std.specs.declared.sync.Arc.{Arc}
use Rattle.change_history.specs.declared.frames.Held.{Held}
use Rattle.change_history.specs.declared.frames.Held.TheVariants.{Own, Shared}

-- the bytes, in either memory
abbrev pub bytes_held : Held → List ℕ
bytes_held (Own bytes) = bytes.items
bytes_held (Shared part) = part

-- the bytes of each
abbrev pub bytes_each : List (Vec ℕ Global) → List (List ℕ)
bytes_each vs = map (λ v. v.items) vs

-- the bytes of all, one after another
abbrev pub bytes_all : List (Vec ℕ Global) → List ℕ
bytes_all vs = flat_map (λ v. v.items) vs

-- if there is a block, it ends with the bytes of these, which begin at this index
abbrev pub EndsWith : Option (Arc (Vec ℕ Global) Global) → ℕ → List (Vec ℕ Global) → Type 0
EndsWith None from left = ⊤
EndsWith (Some block) from left = (from ≤ length (arc_value block).items) × (drop from (arc_value block).items ≡ bytes_all left)
