use Rattle.std.proofs.Common.{◌≡◌, ◌++◌, drop}
use Rattle.damaged_files.specs.Damages.{slot_damages}
use Rattle.damaged_files.proofs.damages.with_slots.Given as goal

abbrev pub invariant-loop-place : goal.invariant-loop-place
invariant-loop-place l = l.all.items ++ slot_damages l.place (drop l.place l.copies) ≡ l.fn.damages.items ++ slot_damages 0 l.copies
