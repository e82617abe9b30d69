use Rattle.std.proofs.Common.{◌≡◌, ◌∙◌, ◌∷◌, ◌++◌, [], ℕ, ap, inl, inr, length, arith, refl, subst, sym}
use Rattle.std.proofs.lemmas.List.{length_push}
use Rattle.store_parts.specs.Parts.{slot_byte}
use Rattle.store_parts.proofs.Tails.{byte_more}
use Rattle.store_parts.proofs.pieces.content.Goals.{then-at-from+in_ok-push, else-at-from+in_ok-push-2}
use Rattle.store_parts.proofs.pieces.content.Goals as goal

pub loop-i-preserved : goal.loop-i-preserved
loop-i-preserved c =
    let old = c.loop-i.tail.items in
    let slots = c.args.slots.now in
    let slot = c.args.slot in
    let inv = c.loop-i.invariant in
    let byte = slot_byte slots slot c.loop-i.i in
    elim c.if-at-from.branch [
      | then-at-from+in_ok-push w ↦
          let grown : c.if-at-from.tail.items ≡ old ++ 0 ∷ [] = ap (λ v. v.items) w.tail-is ∙ w.in_ok-push.ensures.items in
          record {
            long = omega (arith, ap length grown, length_push old 0, inv.long);
            each = byte_more slots slot old c.if-at-from.tail.items 0 grown (inr refl) inv.each;
          }
      | else-at-from+in_ok-push-2 w ↦
          let grown : c.if-at-from.tail.items ≡ old ++ byte ∷ [] = ap (λ v. v.items) w.tail-is ∙ w.in_ok-push-2.ensures.items in
          record {
            long = omega (arith, ap length grown, length_push old byte, inv.long);
            each = byte_more slots slot old c.if-at-from.tail.items byte grown (inl (subst (λ (n : ℕ). byte ≡ slot_byte slots slot n) (sym inv.long) refl)) inv.each;
          }
    ]
