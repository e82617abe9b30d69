use Rattle.doc_changes.proofs.Raised.{raised, raised_documents}
use Rattle.doc_changes.proofs.laws.earlier_profiles_stay.Goals as goal

pub returns-clause-changes : goal.returns-clause-changes
returns-clause-changes c = raised c.first_faults_are_found.ensures.none c.schemas_of_earlier_profiles_stay.ensures

pub returns-clause-documents : goal.returns-clause-documents
returns-clause-documents c = raised_documents c.schemas_of_earlier_profiles_stay.ensures
