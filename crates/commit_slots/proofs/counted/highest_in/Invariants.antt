use Rattle.std.proofs.Common.{◌≡◌, ◌⊎◌, ◌<◌, ◌≤◌, ℕ, [], length, get_or}
use Rattle.commit_slots.specs.Sealed.{Verifies, number_of}
use Rattle.commit_slots.proofs.counted.highest_in.Given as goal

abbrev pub invariant-loop-sector : goal.invariant-loop-sector
invariant-loop-sector l = record {
  above : (k : ℕ) → k < l.sector-index → Verifies (get_or l.slots k []) → number_of (get_or l.slots k []) ≤ l.highest;
  reached : (l.highest ≡ 0) ⊎ ((k : ℕ) × (k < length l.slots) × Verifies (get_or l.slots k []) × (number_of (get_or l.slots k []) ≡ l.highest));
}
