use Rattle.std.proofs.Common.{◌≡◌, [], ◌∷◌, ◌++◌, append_assoc, length, false, sym, ap, ◌∙◌, subst, rules}
use Rattle.std.proofs.lemmas.List.{map_push}
use Rattle.doc_edits.specs.Meaning.{meaning}
use Rattle.doc_patch.specs.Meaning.{meanings}
use Rattle.doc_patch.specs.Plain.{IsTextOfOperations}
use Rattle.doc_patch.proofs.PlainTexts.{one_operation, no_more}
use Rattle.doc_patch.proofs.plain.plain_operations.Goals as goal

pub loop-preserved : goal.loop-preserved
loop-preserved c = λ os more.
    let o = meaning c.in_ok-operation.operation in
    let before = meanings c.loop.operations.items in
    let here = one_operation c.loop.later c.loop.rest.now c.in_ok-after_comma.field-0.now c.in_ok-operation.after.now o os c.in_ok-after_comma.ensures c.in_ok-operation.ensures more in
    let pushed : meanings c.push.new.self.items ≡ before ++ o ∷ [] = ap meanings c.in-Ok.ensures.items ∙ map_push meaning c.loop.operations.items c.in_ok-operation.operation in
    subst (IsTextOfOperations false c.args.bytes.now) (sym (ap (λ x. x ++ os) pushed ∙ append_assoc before (o ∷ []) os)) (c.loop.invariant (o ∷ os) here)

pub returns-then-is_empty : goal.returns-then-is_empty
returns-then-is_empty c =
    let o = meaning c.in_ok-operation.operation in
    let before = meanings c.loop.operations.items in
    let none : length c.in-Some.end.now ≡ 0 = search rules in
    let last = no_more c.in_ok-operation.after.now c.in-Some.end.now c.in-Some.ensures none in
    let here = one_operation c.loop.later c.loop.rest.now c.in_ok-after_comma.field-0.now c.in_ok-operation.after.now o [] c.in_ok-after_comma.ensures c.in_ok-operation.ensures last in
    let pushed : meanings c.push.new.self.items ≡ before ++ o ∷ [] = ap meanings c.in-Ok.ensures.items ∙ map_push meaning c.loop.operations.items c.in_ok-operation.operation in
    subst (IsTextOfOperations false c.args.bytes.now) (sym pushed) (c.loop.invariant (o ∷ []) here)
