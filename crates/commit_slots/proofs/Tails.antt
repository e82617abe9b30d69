-- The tail of a slot, read from one piece after another.
use Rattle.std.proofs.Common.{◌≡◌, ◌⊎◌, inl, inr, ℕ, ◌+◌, ◌-◌, ◌*◌, ◌/◌, ◌%◌, ◌≤◌, ◌<◌, List, [], ◌++◌, length, min, take, drop, get_or, ◌∙◌, ap, refl, arith, length-append}
use Rattle.std.proofs.lemmas.Bool.{cases_lt}
use Rattle.std.proofs.lemmas.List.{get_or-take, get_or-drop, get_or_append_left, get_or-append_right, length-take, length-drop}
use Rattle.commit_slots.specs.Slots.{Image, count_of}

-- byte i of the tail, as it stands in the sectors
abbrev pub byte_of : Image → ℕ → ℕ
byte_of slot i = get_or (get_or slot ((60 + i) / 484) []) (28 + (60 + i) % 484) 0

module _ (slot : Image) (k bytes from count : ℕ) (tail part more : List ℕ) (from_is : from ≡ 28 + (60 - 484 * k)) (count_is : count ≡ min (512 - from) (bytes - length tail)) (below : k < count_of bytes) (whole : length (get_or slot k []) ≡ 512)
    (size : length tail ≡ min bytes (484 * k - 60)) (part_is : part ≡ take count (drop from (get_or slot k []))) (more_is : more ≡ tail ++ part) where
  part_long : length part ≡ count
  part_long = ap length part_is ∙ length-take count (drop from (get_or slot k [])) ∙ omega (arith, length-drop from (get_or slot k []), whole, count_is, from_is)

  pub tail_size : length more ≡ min bytes (484 * (k + 1) - 60)
  tail_size = ap length more_is ∙ length-append tail part ∙ omega (arith, part_long, count_is, from_is, size, below)

  pub tail_bytes : ((i : ℕ) → i < length tail → get_or tail i 0 ≡ byte_of slot i) → (i : ℕ) → i < length more → get_or more i 0 ≡ byte_of slot i
  tail_bytes so_far i lt = ap (λ (l : List ℕ). get_or l i 0) more_is ∙ one (cases_lt i (length tail))
    where
      one : (i < length tail) ⊎ (length tail ≤ i) → get_or (tail ++ part) i 0 ≡ byte_of slot i
      one (inl low) = get_or_append_left tail part 0 i low ∙ so_far i low
      one (inr high) =
          let r = i - length tail in
          let within : r < count = omega (arith, high, lt, part_long, ap length more_is, length-append tail part) in
          let row : k ≡ (60 + i) / 484 = omega (arith, high, within, count_is, from_is, size, below) in
          let column : from + r ≡ 28 + (60 + i) % 484 = omega (arith, high, within, count_is, from_is, size, below) in
          get_or-append_right tail part (length tail) i 0 refl high ∙ ap (λ (l : List ℕ). get_or l r 0) part_is ∙ get_or-take count (drop from (get_or slot k [])) r 0 within ∙ get_or-drop from (get_or slot k []) r 0
          ∙ (λ i. get_or (get_or slot (row i) []) (column i) 0)
