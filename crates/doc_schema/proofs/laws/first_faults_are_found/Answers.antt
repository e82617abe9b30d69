use Rattle.doc_schema.proofs.FirstFaults.{told_first, told_faultless, first_told, faultless_told}
use Rattle.doc_schema.proofs.laws.first_faults_are_found.Goals as goal

pub returns-clause-fault : goal.returns-clause-fault
returns-clause-fault c = λ profile schema n. (told_first profile schema n, first_told profile schema n)

pub returns-clause-none : goal.returns-clause-none
returns-clause-none c = λ profile schema. (told_faultless profile schema, faultless_told profile schema)
