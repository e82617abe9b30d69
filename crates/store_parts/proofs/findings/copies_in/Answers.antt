use Rattle.std.proofs.Common.{◌≡◌, ◌+◌, ℕ, List, ap, length, subst, sym, arith}
use Rattle.std.proofs.lemmas.List.{length_push}
use Rattle.store_parts.specs.Copies.{AreToldFrom, IsTold}
use Rattle.store_parts.specs.declared.findings.SlotCopy.{SlotCopy}
use Rattle.store_parts.proofs.Commits.{told_push}
use Rattle.store_parts.proofs.findings.copies_in.Goals as goal

pub loop-place-preserved : goal.loop-place-preserved
loop-place-preserved c =
    let inv = c.loop-place.invariant in
    let size = c.args.size in
    let slots = c.args.slots.now in
    let before = c.loop-place.copies.items in
    let copy = c.in_ok-copy_at.field-0 in
    let at : c.loop-place.place ≡ 0 + length before = let long = inv.long in omega (arith, long) in
    record {
      few = let test = c.loop-place-test.true in omega (arith, test);
      long = omega (arith, ap length c.in_ok-push.ensures.items, length_push before copy, inv.long);
      told = subst (λ (l : List SlotCopy). AreToldFrom size slots 0 l) (sym c.in_ok-push.ensures.items)
          (told_push size slots 0 before copy inv.told (subst (λ (n : ℕ). IsTold size slots n copy) at c.in_ok-copy_at.ensures));
    }
