use Rattle.doc_tree.specs.TreeView.{view}
use Rattle.schema_rules.proofs.Sorting.{item_at, none_at}
use Rattle.schema_rules.proofs.distinct.at.Goals as goal

pub returns-in-Some : goal.returns-in-Some
returns-in-Some c = item_at c.args.items.now (view c.args.other.now) c.args.place c.in-Some.item.now c.in-Some.ensures.lookup.3.0 c.in-Some.ensures.lookup.1

pub returns-in-None : goal.returns-in-None
returns-in-None c = none_at c.args.items.now (view c.args.other.now) c.args.place c.in-None.ensures.lookup.3
