use Rattle.std.proofs.Common.{◌≡◌, ◌++◌, drop}
use Rattle.damaged_files.specs.Damages.{unread_damages}
use Rattle.damaged_files.proofs.damages.with_unread.Given as goal

abbrev pub invariant-loop-sector : goal.invariant-loop-sector
invariant-loop-sector l = l.all.items ++ unread_damages (drop l.sector-index l.unread) ≡ l.fn.damages.items ++ unread_damages l.unread
