use Rattle.doc_edits.proofs.Sizes.{size-inserted}
use Rattle.doc_edits.proofs.laws.new_item_adds.Goals as goal

pub returns : goal.returns
returns c = size-inserted
