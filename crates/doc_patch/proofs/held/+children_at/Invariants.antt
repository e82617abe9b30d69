use Rattle.std.proofs.Common.{length}
use Rattle.doc_patch.proofs.held.+children_at.Given as goal

abbrev pub decreases-children_at : goal.decreases-children_at
decreases-children_at l = length l.place.now
