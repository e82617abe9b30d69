use Rattle.slot_commits.proofs.Damaged.{slots_carry}
use Rattle.slot_commits.proofs.laws.slots_survive_one_block.Goals as goal

pub returns : goal.returns
returns c = λ number block s before image stands damaged one low. slots_carry number s before image stands damaged block low one
