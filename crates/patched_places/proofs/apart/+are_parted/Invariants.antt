use Rattle.std.proofs.Common.{length}
use Rattle.patched_places.proofs.apart.+are_parted.Given as goal

abbrev pub decreases-are_parted : goal.decreases-are_parted
decreases-are_parted l = length l.from.now
