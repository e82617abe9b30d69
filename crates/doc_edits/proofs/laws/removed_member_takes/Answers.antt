use Rattle.doc_edits.proofs.Sizes.{size-cut}
use Rattle.doc_edits.proofs.laws.removed_member_takes.Goals as goal

pub returns : goal.returns
returns c = size-cut
