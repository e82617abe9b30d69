use Rattle.path_eval.proofs.Standing.{nodes_at}
use Rattle.path_eval.proofs.laws.nodes_stand_at_their_locations.Goals as goal

pub returns : goal.returns
returns c = nodes_at
