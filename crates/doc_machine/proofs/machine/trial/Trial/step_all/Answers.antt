use Rattle.doc_machine.proofs.Transactions.{taken_back}
use Rattle.doc_machine.proofs.machine.trial.Trial.step_all.Goals as goal

pub returns-in-Err-clause-unchanged : goal.returns-in-Err-clause-unchanged
returns-in-Err-clause-unchanged c =
    let stops = c.in-Err.ensures.stops in
    taken_back c.args.self.now c.step_each.new.self c.keep.new.self stops.made_first c.len-before.result stops.made c.len-before.ensures.len c.keep.ensures.state c.keep.ensures.past
