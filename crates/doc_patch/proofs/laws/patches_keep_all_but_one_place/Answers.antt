use Rattle.doc_patch.proofs.Within.{patched_within}
use Rattle.doc_patch.proofs.laws.patches_keep_all_but_one_place.Goals as goal

pub returns : goal.returns
returns c = λ os ts d e l h. patched_within 0 os ts d e l h
