use Rattle.doc_store.proofs.Copies.{opens_alike}
use Rattle.doc_store.proofs.laws.copies_open_alike.Goals as goal

pub returns : goal.returns
returns c = opens_alike
