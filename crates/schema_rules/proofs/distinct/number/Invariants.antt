use Rattle.std.proofs.Common.{◌≡◌, ◌<◌, ℕ, length, slice_index_or}
use Rattle.schema_rules.proofs.distinct.number.Given as goal

abbrev pub invariant-loop-place : goal.invariant-loop-place
invariant-loop-place l = (length l.places ≡ length l.fn.places) × ((k : ℕ) → k < l.place → slice_index_or l.places k 0 ≡ k)
