use Rattle.std.proofs.Common.{◌-◌, length}
use Rattle.doc_changes.specs.State.{Good}
use Rattle.store_salvage.proofs.Gathers.{Carries}
use Rattle.store_salvage.proofs.taking.gather.Given as goal

abbrev pub invariant-loop-from : goal.invariant-loop-from
invariant-loop-from l = record {
  gathers : Carries l.source l.bytes l.parts l.fn.machine l.from l.gathered;
  good : Good l.gathered.machine;
}

abbrev pub decreases-loop-from : goal.decreases-loop-from
decreases-loop-from l = length l.bytes - l.from
