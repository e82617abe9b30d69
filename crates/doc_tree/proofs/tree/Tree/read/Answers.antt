use Rattle.serde_json.specs.View.{view as data_view}
use Rattle.doc_tree.proofs.Conversion.{ok_part, shallow_part, err_part, refused}
use Rattle.doc_tree.proofs.tree.Tree.read.Goals as goal

pub returns-in-Ok-clause-ok : goal.returns-in-Ok-clause-ok
returns-in-Ok-clause-ok c = ok_part c.args.bytes.now (data_view c.in-Ok.value) c.in-Ok.ensures.ok c.tree_of.result c.tree_of.ensures.document

pub returns-in-Ok-clause-shallow : goal.returns-in-Ok-clause-shallow
returns-in-Ok-clause-shallow c = shallow_part c.args.bytes.now (data_view c.in-Ok.value) c.in-Ok.ensures.ok.1 c.tree_of.result c.tree_of.ensures.document

pub returns-in-Ok-clause-err : goal.returns-in-Ok-clause-err
returns-in-Ok-clause-err c = err_part c.args.bytes.now (data_view c.in-Ok.value) c.in-Ok.ensures.ok c.tree_of.result c.tree_of.ensures.document

pub returns-in_default-clause-err : goal.returns-in_default-clause-err
returns-in_default-clause-err c = λ _. refused c.args.bytes.now (c.in-Err.ensures.err (λ m. c.in_default.not-Memory (c.classify.ensures.memory.1 m)))
