use Rattle.path_eval.proofs.Followed.{location_alone, location_within}
use Rattle.path_eval.proofs.laws.location_is_its_only_node.Goals as goal

pub returns-clause-alone : goal.returns-clause-alone
returns-clause-alone c = location_alone

pub returns-clause-within : goal.returns-clause-within
returns-clause-within c = location_within
