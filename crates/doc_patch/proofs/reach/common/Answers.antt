use Rattle.std.proofs.Common.{◌≡◌, ◌∙◌, Bool, true, false, sym, string_bytes, take, arith}
use Rattle.std.proofs.lemmas.Slice.Eq.{bytes_eq-Decides}
use Rattle.doc_edits.specs.Change.{tokens_of}
use Rattle.doc_patch.proofs.Fronts.{PartAt, follows, front_leads, meets, one_longer}
use Rattle.doc_patch.proofs.reach.common.Goals as goal
use Rattle.doc_patch.proofs.reach.common.Goals.{then-loop-len-test+then-len-second+else-eq, then-loop-len-test+else-len-second, else-loop-len-test}

unequal : {b : Bool} → b ≡ false → b ≡ true → ⊥
unequal p q = absurd cc

pub loop-len-preserved : goal.loop-len-preserved
loop-len-preserved c =
    let texts = (bytes_eq-Decides c.as_str.result.now c.as_str-then-len-second.result.now).0 (sym c.eq.ensures ∙ c.if-eq.true) in
    let same : string_bytes c.index-first-len.result ≡ string_bytes c.index-second-len.result = sym c.as_str.ensures.value ∙ texts ∙ c.as_str-then-len-second.ensures.value in
    (omega arith, one_longer c.loop-len.len _ c.args.first.now c.args.second.now c.index-first-len.result c.index-second-len.result (omega arith) c.loop-len-test.true c.if-len-second.true c.index-first-len.is c.index-second-len.is same c.loop-len.invariant.1)

-- where the loop ends one of them ends, or they part
parts : (c : goal.Left-loop-len) → PartAt c.loop-len.len c.args.first.now c.args.second.now
parts c = elim c.loop-len-test.branch [
  | then-loop-len-test+then-len-second+else-eq w ↦ λ lt lt'. (
    w.index-first-len.result,
    w.index-second-len.result,
    w.index-first-len.is,
    w.index-second-len.is,
    λ same. let texts = w.as_str.ensures.value ∙ same ∙ sym w.as_str-then-len-second.ensures.value in
        absurd (unequal (sym w.eq.ensures ∙ w.if-eq.false) ((bytes_eq-Decides w.as_str.result.now w.as_str-then-len-second.result.now).1 texts)),
  )
  | then-loop-len-test+else-len-second w ↦ λ lt lt'. absurd (omega (arith, lt', w.if-len-second.false))
  | else-loop-len-test w ↦ λ lt lt'. absurd (omega (arith, lt, w.loop-len-test.false))
]

pub returns : goal.returns
returns c = λ ts. (
  λ h. (
    follows ts (tokens_of (take c.loop-len.len c.args.first.now)) (tokens_of c.args.first.now) h (front_leads c.loop-len.len c.args.first.now),
    follows ts (tokens_of (take c.loop-len.len c.args.first.now)) (tokens_of c.args.second.now) h c.loop-len.invariant.1,
  ),
  λ h. meets c.loop-len.len c.args.first.now c.args.second.now ts (parts c) h.0 h.1,
)
