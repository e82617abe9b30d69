use Rattle.std.proofs.Common.{◌∙◌, arith}
use Rattle.path_parse.proofs.Answered.{answered, refused}
use Rattle.path_parse.proofs.syntax.Query.read.Goals as goal

pub returns-clause-ok : goal.returns-clause-ok
returns-clause-ok c = answered c.args.text.now (omega arith) _ (c.deref.ensures.value ∙ c.in_ok-characters.ensures) c.judged.result c.judged.ensures.ok

pub returns-clause-err : goal.returns-clause-err
returns-clause-err c = refused c.args.text.now (omega arith) _ (c.deref.ensures.value ∙ c.in_ok-characters.ensures) c.judged.result c.judged.ensures.err
