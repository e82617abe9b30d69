use Rattle.std.proofs.Common.{◌≡◌, ◌<◌, ◌⊎◌, ℕ, length, slice_index}
use Rattle.store_parts.specs.Parts.{slot_byte}
use Rattle.store_parts.proofs.pieces.content.Given as goal

abbrev pub invariant-loop-i : goal.invariant-loop-i
invariant-loop-i l = record {
  long : length l.tail.items ≡ l.i;
  each : (i : ℕ) → i < length l.tail.items → (slice_index l.tail.items i ≡ slot_byte l.slots l.slot i) ⊎ (slice_index l.tail.items i ≡ 0);
}
