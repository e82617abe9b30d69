use Rattle.slot_commits.proofs.Damaged.{carried_same}
use Rattle.slot_commits.proofs.laws.one_copy_is_enough.Goals as goal

pub returns : goal.returns
returns c = λ number copy s d before image stands damaged told low held carries. carried_same number s before image stands damaged copy low held told d carries
