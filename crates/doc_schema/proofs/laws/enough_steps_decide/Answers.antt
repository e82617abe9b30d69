use Rattle.doc_schema.specs.Steps.{verdict}
use Rattle.doc_schema.proofs.Fuel.{enough_is}
use Rattle.doc_schema.proofs.Lifted.{loop_above}
use Rattle.doc_schema.proofs.laws.enough_steps_decide.Goals as goal

pub returns : goal.returns
returns c = λ schema instance none. (verdict schema schema instance, λ n le. enough_is schema (λ l. none (loop_above schema l)) instance n le)
