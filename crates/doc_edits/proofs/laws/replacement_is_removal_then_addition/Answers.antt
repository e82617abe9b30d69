use Rattle.doc_edits.proofs.Again.{replaced_again}
use Rattle.doc_edits.proofs.laws.replacement_is_removal_then_addition.Goals as goal

pub returns : goal.returns
returns c = replaced_again
