use Rattle.doc_schema.proofs.Lifted.{loop_below, loop_above}
use Rattle.doc_schema.proofs.laws.loops_are_walks_over_schemas.Goals as goal

pub returns : goal.returns
returns c = λ schema. (loop_below schema, loop_above schema)
