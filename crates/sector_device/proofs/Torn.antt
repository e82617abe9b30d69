-- One damage, and then others.
use Rattle.std.proofs.Common.{◌≡◌, ℕ, suc, ◌+◌, ◌<◌, List, [], ◌∷◌, length, drop, get_or, ap, sym, ◌∙◌, arith, drop-cons, Bool, true, false}
use Rattle.sector_device.specs.Pick.{damaged_to, torn_of}
use Rattle.sector_device.specs.declared.damage.Damage.{Damage}

one_then : (risk : Bool) (i : ℕ) (damage : Damage) (later : List Damage) (c new : List ℕ) → new ≡ torn_of risk i (damage ∷ []) c → torn_of risk i later new ≡ torn_of risk i (damage ∷ later) c
one_then true i damage later c new is = ap (damaged_to i later) is
one_then false i damage later c new is = is

-- that of the next one in a list
pub next_then : (damage : List Damage) (k : ℕ) (d : Damage) (risk : Bool) (i : ℕ) (c new : List ℕ) → k < length damage → new ≡ torn_of risk i (get_or damage k d ∷ []) c → torn_of risk i (drop (k + 1) damage) new ≡ torn_of risk i (drop k damage) c
next_then damage k d risk i c new lt is =
    let on : suc k ≡ k + 1 = omega arith in
    one_then risk i (get_or damage k d) (drop (k + 1) damage) c new is
    ∙ ap (λ (l : List Damage). torn_of risk i l c) (ap (λ (n : ℕ). get_or damage k d ∷ drop n damage) (sym on) ∙ sym (drop-cons damage k d lt))
