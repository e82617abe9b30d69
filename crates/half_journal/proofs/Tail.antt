-- What an append keeps in the journal.
use Rattle.std.proofs.Common.{◌≡◌, ℕ, ◌+◌, ◌-◌, ◌*◌, ◌/◌, ◌%◌, ◌≤◌, ◌<◌, List, length, get_or, take, drop, ap, sym, ◌∙◌, arith, length-drop}
use Rattle.std.proofs.lemmas.Bool.Decides.{nat_tests}
use Rattle.std.proofs.lemmas.List.{get_or-drop, get_or-take, length-take-le, same_lists, get_or_default}
use Rattle.half_journal.specs.Layout.{half_size, half_capacity}
use Rattle.half_journal.specs.Writes.{touched}
use Rattle.sector_device.specs.Sectors.{IsSectorOf}

-- some bytes touch the sectors from the first to the last
pub touched_some : (used more : ℕ) → 0 < more → touched used more ≡ (used + more - 1) / 512 + 1 - used / 512
touched_some used more some = grind (arith, nat_tests)

pub touched_fits : (used more sectors : ℕ) → used + more ≤ half_capacity sectors → used / 512 + touched used more ≤ half_size sectors
touched_fits used more sectors fits = grind (arith, nat_tests)

-- the last part of the new bytes
pub tail_after : (all front : List ℕ) (q k used : ℕ) (sector : List ℕ) → IsSectorOf front k sector → front ≡ drop (512 * q) all → used ≡ length all → used / 512 ≡ q + k → take (used % 512) sector ≡ drop (512 * (used / 512)) all
tail_after all front q k used sector is_sector front_is used_is place =
    same_lists (take (used % 512) sector) (drop (512 * (used / 512)) all)
    (size ∙ sym (length-drop (512 * (used / 512)) all ∙ omega (arith, used_is)))
    (λ i d lt.
    let low : i < used % 512 = omega (arith, lt, size) in
    let low_sector : i < length sector = omega (arith, low, is_sector.whole) in
    let low_all : 512 * (used / 512) + i < length all = omega (arith, low, used_is) in
    get_or-take (used % 512) sector i d low ∙ get_or_default sector i d 0 low_sector ∙ is_sector.same i (omega (arith, low))
    ∙ ap (λ (l : List ℕ). get_or l (512 * k + i) 0) front_is ∙ get_or-drop (512 * q) all (512 * k + i) 0
    ∙ ap (λ (n : ℕ). get_or all n 0) (omega (arith, place)) ∙ get_or_default all (512 * (used / 512) + i) 0 d low_all ∙ sym (get_or-drop (512 * (used / 512)) all i d))
  where
    size : length (take (used % 512) sector) ≡ used % 512
    size = length-take-le (used % 512) sector (omega (arith, is_sector.whole))
