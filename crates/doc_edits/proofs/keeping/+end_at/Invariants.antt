use Rattle.std.proofs.Common.{length}
use Rattle.doc_edits.proofs.keeping.+end_at.Given as goal

abbrev pub decreases-end_at : goal.decreases-end_at
decreases-end_at l = length l.rest.now
