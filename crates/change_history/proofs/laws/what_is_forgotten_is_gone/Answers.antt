use Rattle.change_history.proofs.After.{gone_below, same_after}
use Rattle.change_history.proofs.laws.what_is_forgotten_is_gone.Goals as goal

pub returns : goal.returns
returns c = record { gone = gone_below; same = same_after }
