use Rattle.slot_commits.proofs.Either.{carries_one}
use Rattle.slot_commits.proofs.laws.images_carry_one.Goals as goal

pub returns : goal.returns
returns c = carries_one
