use Rattle.commit_slots.proofs.Mixed.{counts_either}
use Rattle.commit_slots.proofs.laws.mixtures_do_not_count.Goals as goal

pub returns : goal.returns
returns c = λ old new was tail p before image size of fresh may. counts_either new tail before image size of fresh may old was p
