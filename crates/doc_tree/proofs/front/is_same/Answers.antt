use Rattle.doc_tree.proofs.Matching.{same_on_true}
use Rattle.doc_tree.proofs.front.is_same.Goals as goal

pub returns : goal.returns
returns c = same_on_true c.are_same.result c.args.a.now c.args.b.now c.requires c.are_same.ensures
