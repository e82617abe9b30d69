use Rattle.std.proofs.Common.{◌<◌, [], ℕ, slice_index_or}
use Rattle.commit_slots.specs.Sealed.{Verifies}
use Rattle.store_parts.proofs.findings.has_sealed.Given as goal

abbrev pub invariant-loop-at : goal.invariant-loop-at
invariant-loop-at l = (k : ℕ) → k < l.at → Verifies (slice_index_or l.slots k []) → ⊥
