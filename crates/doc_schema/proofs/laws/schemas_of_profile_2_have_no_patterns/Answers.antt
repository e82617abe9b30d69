use Rattle.doc_schema.proofs.Offered.{no_patterns}
use Rattle.doc_schema.proofs.laws.schemas_of_profile_2_have_no_patterns.Goals as goal

pub returns : goal.returns
returns c = no_patterns
