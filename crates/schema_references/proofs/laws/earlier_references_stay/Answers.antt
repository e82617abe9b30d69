use Rattle.schema_references.proofs.Kept.{stays}
use Rattle.schema_references.proofs.laws.earlier_references_stay.Goals as goal

pub returns : goal.returns
returns c = λ root v d e. stays root v d e
