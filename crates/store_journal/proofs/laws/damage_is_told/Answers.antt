use Rattle.store_journal.proofs.Damaged.{damaged}
use Rattle.store_journal.proofs.laws.damage_is_told.Goals as goal

pub returns : goal.returns
returns c = damaged
