use Rattle.std.proofs.Common.{◌≡◌, ◌≢◌, ◌∙◌, ℕ, [], set, get_or, arith, below_more}
use Rattle.std.proofs.lemmas.List.{get_or-set_same, get_or-set_other, length-set}
use Rattle.commit_slots.specs.Slots.{slot_sector}
use Rattle.slot_commits.proofs.pair.make_sectors.Goals as goal

pub loop-k-preserved : goal.loop-k-preserved
loop-k-preserved c =
    let j : ℕ = c.loop-k.k in
    let sectors = c.loop-k.sectors in
    let made = c.slot_sector.result in
    let inv = c.loop-k.invariant in
    record {
      size = length-set sectors j made ∙ inv.size;
      made = below_more (λ (k : ℕ). get_or (set sectors j made) k [] ≡ slot_sector c.args.slot.now c.args.tail.now k) j
          (λ k below. let other : k ≢ j = omega (arith, below) in get_or-set_other sectors j k made [] other ∙ inv.made k below)
          (get_or-set_same sectors j made [] (omega (arith, inv.size, c.loop-k-test.true, c.sectors_of_tail-k-end.ensures, c.requires.fits)) ∙ c.slot_sector.ensures);
    }
