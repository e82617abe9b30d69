use Rattle.path_eval.proofs.Standing.{descendants-places}
use Rattle.path_eval.proofs.laws.descendants_are_the_places.Goals as goal

pub returns : goal.returns
returns c = descendants-places
