use Rattle.doc_store.proofs.laws.one_state_stands.Goals as goal

pub returns : goal.returns
returns c = c.one_state_stands.ensures
