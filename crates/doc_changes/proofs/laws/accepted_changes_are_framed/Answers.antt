use Rattle.doc_changes.proofs.Framed.{framed}
use Rattle.doc_changes.proofs.laws.accepted_changes_are_framed.Goals as goal

pub returns : goal.returns
returns c = framed c.changes_of_small_parts_are_framed.ensures c.first_faults_are_found.ensures.none
