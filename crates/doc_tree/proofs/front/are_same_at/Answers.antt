use Rattle.doc_tree.proofs.Matching.{same_from_lanes}
use Rattle.doc_tree.proofs.front.are_same_at.Goals as goal

pub returns : goal.returns
returns g c = same_from_lanes c.args.a.now c.args.b.now c.args.at g.row.N c.requires.1 c.requires.2 c.requires.0
