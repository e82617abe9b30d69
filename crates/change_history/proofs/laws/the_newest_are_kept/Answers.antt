use Rattle.change_history.proofs.Trimmed.{newest_stay}
use Rattle.change_history.proofs.laws.the_newest_are_kept.Goals as goal

pub returns : goal.returns
returns c = newest_stay
