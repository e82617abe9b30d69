use Rattle.doc_edits.proofs.Heights.{remove_not_higher}
use Rattle.doc_edits.proofs.laws.removal_is_not_higher.Goals as goal

pub returns : goal.returns
returns c = remove_not_higher
