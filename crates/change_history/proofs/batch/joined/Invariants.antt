use Rattle.std.proofs.Common.{◌≡◌, ◌++◌, drop}
use Rattle.change_history.specs.Frames.{bytes_all}
use Rattle.change_history.proofs.batch.joined.Given as goal

abbrev pub invariant-loop-one : goal.invariant-loop-one
invariant-loop-one l = l.bytes.items ++ bytes_all (drop l.one-index l.each) ≡ bytes_all l.each
