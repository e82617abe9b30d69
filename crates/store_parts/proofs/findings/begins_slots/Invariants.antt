use Rattle.std.proofs.Common.{◌≡◌, ◌*◌, ◌<◌, [], ℕ, slice_index_or, take}
use Rattle.commit_slots.specs.Sealed.{beginning}
use Rattle.store_parts.proofs.findings.begins_slots.Given as goal

abbrev pub invariant-loop-place : goal.invariant-loop-place
invariant-loop-place l = (k : ℕ) → k < l.place → take 12 (slice_index_or l.slots (32 * k) []) ≡ beginning → ⊥
