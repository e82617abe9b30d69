use Rattle.commit_slots.proofs.Mixed.{still_fresh}
use Rattle.commit_slots.proofs.laws.numbers_rise.Goals as goal

pub returns : goal.returns
returns c = still_fresh
