use Rattle.doc_changes.proofs.Framed.{creation_framed}
use Rattle.doc_changes.proofs.laws.storable_documents_are_framed.Goals as goal

pub returns : goal.returns
returns c = creation_framed c.changes_of_small_parts_are_framed.ensures
