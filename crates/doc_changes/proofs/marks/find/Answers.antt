use Rattle.std.proofs.Common.{◌≡◌, ◌∙◌, sym, ap, arith, false, true, bytes_eq, string_bytes}
use Rattle.doc_changes.specs.declared.mark.Mark.{Mark as Held}
use Rattle.doc_changes.proofs.Marked.{place_here, place_later, place_nowhere}
use Rattle.doc_changes.proofs.marks.find.Goals as goal

pub loop-index-preserved : goal.loop-index-preserved
loop-index-preserved c =
    let l = c.loop-index in
    let other : bytes_eq c.args.key.now (string_bytes c.index-marks-index.result.key) ≡ false = ap (λ (x : Held). bytes_eq c.args.key.now (string_bytes x.key)) c.index-marks-index.is ∙ ap (bytes_eq c.args.key.now) (sym c.as_str.ensures.value) ∙ sym c.eq.ensures ∙ c.if-eq.false in
    sym (place_later c.args.key.now c.args.marks.now l.index l.index c.index-marks-index.result (omega arith) c.index-marks-index.is other) ∙ l.invariant

pub returns-then-eq : goal.returns-then-eq
returns-then-eq c =
    let l = c.loop-index in
    let same : bytes_eq c.args.key.now (string_bytes c.index-marks-index.result.key) ≡ true = ap (λ (x : Held). bytes_eq c.args.key.now (string_bytes x.key)) c.index-marks-index.is ∙ ap (bytes_eq c.args.key.now) (sym c.as_str.ensures.value) ∙ sym c.eq.ensures ∙ c.if-eq.true in
    sym (place_here c.args.key.now c.args.marks.now l.index l.index c.index-marks-index.result (omega arith) c.index-marks-index.is same) ∙ l.invariant

pub returns : goal.returns
returns c =
    let l = c.loop-index in
    sym (place_nowhere c.args.key.now c.args.marks.now l.index l.index (omega arith)) ∙ l.invariant
