use Rattle.doc_store.proofs.Strict.{damage_told}
use Rattle.doc_store.proofs.laws.damage_is_told.Goals as goal

pub returns : goal.returns
returns c = damage_told
