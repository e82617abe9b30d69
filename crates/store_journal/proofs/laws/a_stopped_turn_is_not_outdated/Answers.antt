use Rattle.store_journal.proofs.First.{stopped}
use Rattle.store_journal.proofs.laws.a_stopped_turn_is_not_outdated.Goals as goal

pub returns : goal.returns
returns c = stopped
