use Rattle.std.proofs.Common.{length}
use Rattle.doc_edits.proofs.change.+change_at.Given as goal

abbrev pub decreases-change_at : goal.decreases-change_at
decreases-change_at l = length l.rest.now
