use Rattle.doc_store.proofs.laws.snapshots_remake_all.Goals as goal

pub returns : goal.returns
returns c = c.snapshots_remake_all.ensures
