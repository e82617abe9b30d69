use Rattle.std.proofs.Common.{length}
use Rattle.doc_edits.proofs.spare.+spare_at.Given as goal

abbrev pub decreases-spare_at : goal.decreases-spare_at
decreases-spare_at l = length l.rest.now
