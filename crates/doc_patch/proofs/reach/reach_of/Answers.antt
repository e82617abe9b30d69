use Rattle.doc_edits.specs.Meaning.{meaning}
use Rattle.doc_patch.proofs.Fronts.{one_holds, one_without}
use Rattle.doc_patch.proofs.reach.reach_of.Goals as goal

pub returns-clause-some : goal.returns-clause-some
returns-clause-some c = one_holds c.narrowed.result (meaning c.args.operation.now) c.narrowed.ensures

pub returns-clause-none : goal.returns-clause-none
returns-clause-none c = one_without c.narrowed.result (meaning c.args.operation.now) c.narrowed.ensures
