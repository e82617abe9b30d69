use Rattle.std.proofs.Common.{sym, ap, ◌∙◌, arith}
use Rattle.doc_tree.specs.TreeView.{view}
use Rattle.doc_pointer.specs.Place.{resolve}
use Rattle.doc_edits.proofs.Growths.{value_at-resolve}
use Rattle.doc_edits.proofs.Walk.{as_str_step}
use Rattle.doc_edits.proofs.back.put_again.Goals as goal

pub returns-in-Ok-clause-taken : goal.returns-in-Ok-clause-taken
returns-in-Ok-clause-taken c =
    let d = view c.args.tree.now in
    let path = as_str_step c.args.path.now c.token-item.result c.as_str.result.now (omega arith) c.token-item.is c.as_str.ensures.value in
    c.in-Ok.ensures.taken ∙ value_at-resolve c.as_str.result.now _ d ∙ ap (λ ks. resolve ks d) (sym path)
