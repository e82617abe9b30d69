use Rattle.doc_patch.proofs.Untouched.{patch_stays}
use Rattle.doc_patch.proofs.laws.untouched_places_stay.Goals as goal

pub returns : goal.returns
returns c = patch_stays 0
