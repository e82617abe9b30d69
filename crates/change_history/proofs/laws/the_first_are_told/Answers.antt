use Rattle.change_history.proofs.First.{all_first, is_first}
use Rattle.change_history.proofs.laws.the_first_are_told.Goals as goal

pub returns : goal.returns
returns c = record { first = is_first; all = all_first }
