use Rattle.slot_commits.proofs.Either.{stands_carries}
use Rattle.slot_commits.proofs.laws.what_stands_is_carried.Goals as goal

pub returns : goal.returns
returns c = stands_carries
