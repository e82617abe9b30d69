use Rattle.doc_edits.proofs.Heights.{replace_deep}
use Rattle.doc_edits.proofs.laws.replacement_is_deep.Goals as goal

pub returns : goal.returns
returns c = replace_deep
