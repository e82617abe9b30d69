use Rattle.doc_schema.proofs.Offered.{faultless_stays}
use Rattle.doc_schema.proofs.laws.schemas_of_earlier_profiles_stay.Goals as goal

pub returns : goal.returns
returns c = faultless_stays
