use Rattle.schema_references.proofs.Walked.{names_schema}
use Rattle.schema_references.proofs.laws.references_name_schemas.Goals as goal

pub returns : goal.returns
returns c = λ root v d e. names_schema root v d e
