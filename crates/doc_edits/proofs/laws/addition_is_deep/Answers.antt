use Rattle.doc_edits.proofs.Heights.{add_deep}
use Rattle.doc_edits.proofs.laws.addition_is_deep.Goals as goal

pub returns : goal.returns
returns c = add_deep
