use Rattle.slot_commits.proofs.Damaged.{carried_same, one_held}
use Rattle.slot_commits.proofs.laws.one_block_is_told.Goals as goal

pub returns : goal.returns
returns c = λ number block s d before image stands damaged one told carries. let held = one_held number s before image stands damaged block one in carried_same number s before image stands damaged held.0 held.1 held.2 told d carries
