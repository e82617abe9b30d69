use Rattle.doc_edits.proofs.Places.{added_is_there}
use Rattle.doc_edits.proofs.laws.added_value_is_there.Goals as goal

pub returns : goal.returns
returns c = added_is_there
