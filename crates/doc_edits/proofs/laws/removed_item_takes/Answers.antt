use Rattle.doc_edits.proofs.Sizes.{size-removed}
use Rattle.doc_edits.proofs.laws.removed_item_takes.Goals as goal

pub returns : goal.returns
returns c = size-removed
