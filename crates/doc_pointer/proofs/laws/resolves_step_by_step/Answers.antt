use Rattle.doc_pointer.proofs.Places.{resolve-append}
use Rattle.doc_pointer.proofs.laws.resolves_step_by_step.Goals as goal

pub returns : goal.returns
returns c = resolve-append
