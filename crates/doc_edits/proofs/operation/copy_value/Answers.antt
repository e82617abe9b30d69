use Rattle.std.proofs.Common.{sym, subst}
use Rattle.doc_tree.specs.TreeView.{view}
use Rattle.doc_edits.specs.SizeChange.{IsWeightOf}
use Rattle.doc_edits.proofs.Knowing.{put_known, weighed}
use Rattle.doc_edits.proofs.operation.copy_value.Goals as goal

pub returns-clause-known : goal.returns-clause-known
returns-clause-known c =
    let v = view c.in_ok-value.value in
    let weight = subst (IsWeightOf c.weigh-weight.result) (sym c.in_ok-value.ensures.same) c.weigh-weight.ensures in
    put_known _ v (view c.args.tree.now) (view c.add.new.tree) c.in_ok-growth.ensures.made (weighed c.weigh-weight.result v weight)
