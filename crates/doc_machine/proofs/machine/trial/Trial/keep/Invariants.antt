use Rattle.std.proofs.Common.{◌≡◌, length, take}
use Rattle.doc_changes.specs.State.{Good}
use Rattle.doc_machine.specs.Trial.{state_at}
use Rattle.doc_machine.proofs.machine.trial.Trial.keep.Given as goal

abbrev pub invariant-loop-left : goal.invariant-loop-left
invariant-loop-left l = record {
  state : state_at l.oldest l.self ≡ state_at l.oldest l.fn.self;
  past : take l.oldest l.self.past ≡ take l.oldest l.fn.self.past;
  left : l.left ≡ length l.self.past;
  good : Good l.self.state;
}

abbrev pub decreases-loop-left : goal.decreases-loop-left
decreases-loop-left l = l.left
