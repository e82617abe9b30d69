use Rattle.std.proofs.Common.{◌≡◌, ◌<◌, ◌++◌, ◌+◌, ◌∙◌, ◌∷◌, [], length, length-append, sym, ap, subst, arith, refl}
use Rattle.std.proofs.lemmas.List.{get_or_append_left}
use Rattle.std.proofs.lemmas.Result.{IfOk-from_err}
use Rattle.doc_tree.specs.TreeView.{view}
use Rattle.path_select.specs.Paths.{seen, spot_of}
use Rattle.path_select.specs.Indexed.{HasChildren, children_at, node_at}
use Rattle.path_select.proofs.Indexes.{Spanned, indexed, length-children, length-seen, node-listed, span_grows, span_new, spanned_next, stands_at}
use Rattle.path_select.proofs.index.index_of.Goals as goal

pub with_children-requires-in-loop-number-clause-place : goal.with_children-requires-in-loop-number-clause-place
with_children-requires-in-loop-number-clause-place c =
    let l = c.loop-number in
    let t = c.loop-number-test.true in
    let n = c.len.ensures ∙ l.walk.listed.ok.0 in
    stands_at _ l.walk.listed.items l.number c.index-spot.result.now l.invariant.0 (omega (arith, t, n)) c.index-spot.ensures

pub loop-number-preserved : goal.loop-number-preserved
loop-number-preserved c =
    let l = c.loop-number in
    let root = view c.args.root.now in
    let us = seen l.walk in
    let h = c.in_ok-more.ensures in
    let t = c.loop-number-test.true in
    let n = c.len.ensures ∙ l.walk.listed.ok.0 in
    let lt : l.number < length l.walk.listed.items = omega (arith, t, n) in
    let here = spot_of l.walk.trail.items c.index-spot.result.now in
    let more = children_at here in
    let span = c.in_ok-more.span in
    let is : node_at root us l.number ≡ here = node-listed root l.walk l.number c.index-spot.result.now lt c.index-spot.ensures in
    let same = length-seen l.walk in
    let within : l.number < length us = omega (arith, lt, same) in
    let first = h.span.0 ∙ sym (length-seen l.walk) in
    let count = h.span.1 ∙ sym (length-children here) in
    let new : HasChildren (us ++ more) span (node_at root us l.number) = subst (HasChildren (us ++ more) span) (sym is) (span_new us span here first count) in
    let spanned = spanned_next root us more l.spans.items c.in_ok-first.top span l.number l.invariant.5 within l.invariant.2 new in
    let now : seen c.in_ok-more.more ≡ us ++ more = h.listed in (
      h.on.4,
      (let m = ap length now in let a = length-append us more in let w = within in let k = count in omega (arith, m, a, w)),
      (let m = ap length c.in_ok-push-3.ensures.items in let a = length-append l.spans.items (span ∷ []) in let k = l.invariant.2 in omega (arith, m, a, k)),
      ap (λ vs. node_at root vs 0) now ∙ get_or_append_left us more ([], root) 0 (let w = within in omega (arith, w)) ∙ l.invariant.3,
      subst (λ vs. HasChildren vs c.in_ok-first.top ([], root)) (sym now) (span_grows us more c.in_ok-first.top ([], root) l.invariant.4),
      subst (λ vs. Spanned root vs c.push-in-loop-number.new.self.items c.in_ok-first.top (l.number + 1)) (sym now) (subst (λ ss. Spanned root (us ++ more) ss c.in_ok-first.top (l.number + 1)) (sym c.in_ok-push-3.ensures.items) spanned),
    )

pub returns-in_err-push-clause-root : goal.returns-in_err-push-clause-root
returns-in_err-push-clause-root c = IfOk-from_err c.from_residual.result _ c.from_residual.ensures.0

pub returns-in_err-push-clause-complete : goal.returns-in_err-push-clause-complete
returns-in_err-push-clause-complete c = IfOk-from_err c.from_residual.result _ c.from_residual.ensures.0

pub returns-in_err-first-clause-root : goal.returns-in_err-first-clause-root
returns-in_err-first-clause-root c = IfOk-from_err c.from_residual-in_err-first.result _ c.from_residual-in_err-first.ensures.0

pub returns-in_err-first-clause-complete : goal.returns-in_err-first-clause-complete
returns-in_err-first-clause-complete c = IfOk-from_err c.from_residual-in_err-first.result _ c.from_residual-in_err-first.ensures.0

pub returns-in_err-push-2-clause-root : goal.returns-in_err-push-2-clause-root
returns-in_err-push-2-clause-root c = IfOk-from_err c.from_residual-in_err-push-2.result _ c.from_residual-in_err-push-2.ensures.0

pub returns-in_err-push-2-clause-complete : goal.returns-in_err-push-2-clause-complete
returns-in_err-push-2-clause-complete c = IfOk-from_err c.from_residual-in_err-push-2.result _ c.from_residual-in_err-push-2.ensures.0

pub returns-in_err-more-clause-root : goal.returns-in_err-more-clause-root
returns-in_err-more-clause-root c = IfOk-from_err c.from_residual-in_err-more.result _ c.from_residual-in_err-more.ensures.0

pub returns-in_err-more-clause-complete : goal.returns-in_err-more-clause-complete
returns-in_err-more-clause-complete c = IfOk-from_err c.from_residual-in_err-more.result _ c.from_residual-in_err-more.ensures.0

pub returns-in_err-push-3-clause-root : goal.returns-in_err-push-3-clause-root
returns-in_err-push-3-clause-root c = IfOk-from_err c.from_residual-in_err-push-3.result _ c.from_residual-in_err-push-3.ensures.0

pub returns-in_err-push-3-clause-complete : goal.returns-in_err-push-3-clause-complete
returns-in_err-push-3-clause-complete c = IfOk-from_err c.from_residual-in_err-push-3.result _ c.from_residual-in_err-push-3.ensures.0

pub returns-clause-root : goal.returns-clause-root
returns-clause-root c = refl

pub returns-clause-complete : goal.returns-clause-complete
returns-clause-complete c =
    let l = c.loop-number in
    let i = l.invariant in
    let n = c.len.ensures ∙ l.walk.listed.ok.0 in
    let t = c.loop-number-test.false in
    let u = i.1 in
    let same = length-seen l.walk in
    indexed (view c.args.root.now) (seen l.walk) l.spans.items c.in_ok-first.top l.number i.5 (omega (arith, same, n, t, u)) i.2 i.3 i.4
