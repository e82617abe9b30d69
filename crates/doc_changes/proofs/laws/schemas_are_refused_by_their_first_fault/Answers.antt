use Rattle.doc_changes.proofs.Schemas.{faultless, fault_of, refused_by, unrefused}
use Rattle.doc_changes.proofs.laws.schemas_are_refused_by_their_first_fault.Goals as goal

pub returns : goal.returns
returns c = λ p s.
    let faults = c.first_faults_are_found.ensures.fault p in
    let none = c.first_faults_are_found.ensures.none p in
    ((faultless p none s, unrefused p none s), λ n. (fault_of p faults s n, refused_by p faults s n))
