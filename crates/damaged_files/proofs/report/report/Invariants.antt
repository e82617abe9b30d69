use Rattle.std.proofs.Common.{◌≡◌, ◌++◌, drop}
use Rattle.damaged_files.specs.Damages.{lines_of_damages}
use Rattle.damaged_files.proofs.report.report.Given as goal

abbrev pub invariant-loop-damage : goal.invariant-loop-damage
invariant-loop-damage l = l.text.items ++ lines_of_damages (drop l.damage-index l.damages) ≡ lines_of_damages l.damages
