use Rattle.doc_schema.proofs.Lifted.{loop_above}
use Rattle.doc_schema.proofs.Musts.{anew, judged_new}
use Rattle.doc_schema.proofs.laws.changes_are_judged_where_they_reach.Goals as goal

pub returns : goal.returns
returns c = λ schema old new faultless was. (anew schema (λ l. faultless.loops (loop_above schema l)) old new was, judged_new schema (λ l. faultless.loops (loop_above schema l)) old new was)
