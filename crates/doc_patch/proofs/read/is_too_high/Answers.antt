use Rattle.doc_patch.proofs.Operations.{above_capped}
use Rattle.doc_patch.proofs.read.is_too_high.Goals as goal

pub returns-clause-judged : goal.returns-clause-judged
returns-clause-judged c = above_capped _ c.height.result c.height.ensures.height
