use Rattle.std.proofs.Common.{◌≡◌, ◌<◌, get_or, ℕ, []}
use Rattle.commit_slots.specs.Slots.{slot_sector}
use Rattle.commit_slots.proofs.found.is_held.Given as goal

abbrev pub invariant-loop-k : goal.invariant-loop-k
invariant-loop-k l = (j : ℕ) → j < l.k → get_or l.slot j [] ≡ slot_sector l.one l.tail j
