use Rattle.change_history.proofs.Trimmed.{each_at_once}
use Rattle.change_history.proofs.laws.one_at_a_time_is_all_at_once.Goals as goal

pub returns : goal.returns
returns c = each_at_once
