use Rattle.commit_slots.proofs.Mixed.{one_counts}
use Rattle.commit_slots.proofs.laws.one_copy_counts.Goals as goal

pub returns : goal.returns
returns c = one_counts
