use Rattle.schema_rules.proofs.Sorting.{front_and_all}
use Rattle.schema_rules.proofs.distinct.rise_sorted_in_tiers.Goals as goal

pub returns-else-front_rises : goal.returns-else-front_rises
returns-else-front_rises c = front_and_all 262144 c.args.items.now c.front_rises.result c.if-front_rises.false c.front_rises.ensures
