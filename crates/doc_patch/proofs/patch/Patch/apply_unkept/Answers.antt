use Rattle.std.proofs.Common.{◌<◌, length, ap, ◌∙◌, subst, rules}
use Rattle.doc_tree.specs.TreeView.{view}
use Rattle.doc_patch.specs.Fault.{IsFaultOf}
use Rattle.doc_patch.specs.Meaning.{meanings}
use Rattle.doc_patch.specs.Patch.{patch}
use Rattle.doc_patch.proofs.Operations.{refused_in}
use Rattle.doc_patch.proofs.patch.Patch.apply_unkept.Goals as goal

pub returns-in-Err-clause-made : goal.returns-in-Err-clause-made
returns-in-Err-clause-made c =
    let l = c.loop-index in
    let operations = c.deref-operation-items.result.now in
    let less : l.index < length operations = search rules in
    let here = refused_in l.index operations c.operation-item.result (view l.tree) c.in-Err.fault c.of.result less c.operation-item.is c.in-Err.ensures.made
    c.of.ensures in
    let all = l.invariant.0 ∙ ap (λ os. patch (meanings os) (view c.args.tree.now)) c.deref-operation-items.ensures.value in
    subst (λ r. IsFaultOf r c.of.result) all here
