use Rattle.std.proofs.Common.{◌≡◌, ◌-◌, ◌∙◌, None, drop, length, take, subst, sym, ap, arith}
use Rattle.doc_tree.specs.TreeView.{view}
use Rattle.doc_edits.specs.Change.{tokens_of}
use Rattle.doc_edits.specs.Edit.{at_last, remove_here}
use Rattle.doc_edits.specs.Keeping.{IsOriginOf, last_of}
use Rattle.doc_edits.specs.Spare.{IsSpareAt}
use Rattle.doc_edits.specs.declared.back.Origin.{Origin}
use Rattle.doc_edits.proofs.Restored.{chosen, comes_back}
use Rattle.doc_edits.proofs.Walk.{as_str_step}
use Rattle.doc_edits.proofs.keeping.origin_of.Goals as goal

pub returns : goal.returns
returns c = λ sound.
    let d = view c.args.tree.now in
    let t = c.as_str.result.now in
    let rest = tokens_of (take (length c.args.path.now - 1) (drop 1 c.args.path.now)) in
    let origin : Origin = record { path = c.in_ok-copy_path.field-0; name = c.in_ok-copy_of.field-0; spare = c.in-Some.spare } in
    let path = as_str_step c.args.path.now c.token-item.result t (omega arith) c.token-item.is c.as_str.ensures.value in
    let name = c.in_ok-copy_of.ensures ∙ c.last_of-last.ensures ∙ ap (λ k. last_of k rest) (c.as_str-2.ensures.value ∙ sym c.as_str.ensures.value) in
    let room = chosen c.in_ok-spare.field-0 c.in-Some.spare (at_last remove_here t rest d ≡ None) (λ s. IsSpareAt s t rest d) c.in-Some.is c.in_ok-spare.ensures in
    subst (λ ks. IsOriginOf origin ks d) (sym path) (comes_back origin t rest d (c.in_ok-copy_path.ensures ∙ path) name room sound)
