use Rattle.std.proofs.Common.{◌-◌, length}
use Rattle.store_salvage.proofs.taking.made_anew.Given as goal

abbrev pub decreases-loop-from : goal.decreases-loop-from
decreases-loop-from l = length l.bytes - l.from
