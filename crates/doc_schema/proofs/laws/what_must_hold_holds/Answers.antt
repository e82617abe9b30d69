use Rattle.doc_schema.proofs.Lifted.{loop_above}
use Rattle.doc_schema.proofs.Musts.{must_holds}
use Rattle.doc_schema.proofs.laws.what_must_hold_holds.Goals as goal

pub returns : goal.returns
returns c = λ schema document faultless is s t m. must_holds schema (λ l. faultless.loops (loop_above schema l)) document is m
