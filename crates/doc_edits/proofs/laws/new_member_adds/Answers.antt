use Rattle.doc_edits.proofs.Sizes.{size-put}
use Rattle.doc_edits.proofs.laws.new_member_adds.Goals as goal

pub returns : goal.returns
returns c = size-put
