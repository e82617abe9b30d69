use Rattle.std.proofs.Common.{◌≡◌, ◌≤◌, length, inl, inr, refl, sym, subst, ap, ◌∙◌, arith}
use Rattle.refusals.specs.declared.numbers.TheConstants.{LINE_TOO_LONG, MEMORY}
use Rattle.doc_changes.specs.Refusals.{plain}
use Rattle.doc_changes.specs.declared.refusal.Refusal.{Refusal}
use Rattle.protocol.specs.declared.limits.TheConstants.{LINE_BYTES}
use Rattle.serve_lines.proofs.session.read_line.Goals as goal

pub returns-in-Some-clause-within : goal.returns-in-Some-clause-within
returns-in-Some-clause-within c = λ line h _. subst (λ l. length l ≤ LINE_BYTES) (c.in-Some.ensures.text line h) c.in-Some.ensures.short

pub returns-in-None-clause-reads : goal.returns-in-None-clause-reads
returns-in-None-clause-reads c = λ line h. inr (LINE_TOO_LONG, c.plain.ensures, inl (c.in-None.ensures.text line h, refl))

pub returns-in-None-clause-within : goal.returns-in-None-clause-within
returns-in-None-clause-within c = λ line h memory.
    let same : c.plain.result ≡ plain MEMORY = cc memory in
    let numbers : 10 ≡ 63 = ap (λ (r : Refusal). r.number) (sym c.plain.ensures ∙ same) in
    absurd (omega (arith, numbers))
