use Rattle.std.proofs.Common.{◌≡◌, ◌++◌, drop, map}
use Rattle.damaged_files.specs.Damages.{damage_of}
use Rattle.damaged_files.proofs.damages.with_doubts.Given as goal

abbrev pub invariant-loop-doubt : goal.invariant-loop-doubt
invariant-loop-doubt l = l.all.items ++ map (damage_of l.part) (drop l.doubt-index l.doubts) ≡ l.fn.damages.items ++ map (damage_of l.part) l.doubts
