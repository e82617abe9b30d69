use Rattle.std.proofs.Common.{◌≡◌, ◌+◌, ℕ, [], Bool, true, false, not, refl, sym, ap, ◌∙◌, get_or, below_more, arith}
use Rattle.std.specs.Cmp.Lexicographic.{bytes_decides, other_text}
use Rattle.commit_slots.specs.Slots.{slot_sector}
use Rattle.commit_slots.proofs.found.is_held.Goals as goal

differs : (b : Bool) → not b ≡ true → false ≡ b
differs true e = cc
differs false e = refl

agrees : (b : Bool) → not b ≡ false → b ≡ true
agrees true e = refl
agrees false e = cc

pub returns-then-ne : goal.returns-then-ne
returns-then-ne c =
    let k = c.loop-k.k in
    let slot = c.args.slot.now in
    let at : 0 + k ≡ k = omega arith in (
      λ no. let contrary : false ≡ true = no in cc contrary,
      λ held. absurd (other_text c.slot_sector.result (get_or slot k []) (differs _ (sym c.ne.ensures ∙ c.if-ne.true)) (c.slot_sector.ensures ∙ sym (sym (ap (λ (n : ℕ). get_or slot n []) at) ∙ held k (omega (arith, c.loop-k-test.true, c.sectors_of_tail-k-end.ensures))))),
    )

pub loop-k-preserved : goal.loop-k-preserved
loop-k-preserved c =
    let k = c.loop-k.k in
    let slot = c.args.slot.now in
    below_more (λ (j : ℕ). get_or slot j [] ≡ slot_sector c.args.one.now c.args.tail.now j) k c.loop-k.invariant
    (sym ((bytes_decides c.slot_sector.result (get_or slot k [])).0 (agrees _ (sym c.ne.ensures ∙ c.if-ne.false))) ∙ c.slot_sector.ensures)

pub returns : goal.returns
returns c = (
  λ yes k lt. let at : 0 + k ≡ k = omega arith in ap (λ (n : ℕ). get_or c.args.slot.now n []) at ∙ c.loop-k.invariant k (omega (arith, lt, c.loop-k-test.false, c.sectors_of_tail-k-end.ensures)),
  λ held. refl,
)
