use Rattle.change_history.proofs.After.{go_on}
use Rattle.change_history.proofs.laws.the_rest_follows_the_first.Goals as goal

pub returns : goal.returns
returns c = go_on
