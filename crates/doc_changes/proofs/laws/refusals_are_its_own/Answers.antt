use Rattle.doc_changes.proofs.Known.{own}
use Rattle.doc_changes.proofs.laws.refusals_are_its_own.Goals as goal

pub returns : goal.returns
returns c = own
