use Rattle.doc_patch.proofs.Fronts.{all_but_last}
use Rattle.doc_patch.proofs.reach.holder.Goals as goal

pub returns : goal.returns
returns c = all_but_last c.saturating_sub.result c.args.place.now c.saturating_sub.ensures
