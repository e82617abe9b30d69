use Rattle.std.proofs.Common.{◌≡◌, ◌≢◌, ◌<◌, ℕ, List, length, set, get_or, [], ◌∷◌, refl, ap, sym, ◌∙◌, arith, length-set, below_more}
use Rattle.std.proofs.lemmas.List.{get_or-set_same, get_or-set_other, get_or_read_under, get_or_past}
use Rattle.sector_device.specs.Kept.{written_to}
use Rattle.sector_device.specs.Pick.{picked_of}
use Rattle.sector_device.proofs.memory.keep_picked.Goals.{then-i-picks, else-i-picks}
use Rattle.sector_device.proofs.memory.keep_picked.Goals as goal

pub loop-i-init : goal.loop-i-init
loop-i-init c = record { size = refl; done = λ k none. absurd (omega (arith, none)); rest = λ k le. refl }

pub loop-i-preserved : goal.loop-i-preserved
loop-i-preserved c =
    let inv = c.loop-i.invariant in
    let i = c.loop-i.i in
    let items = c.loop-i.settled.items in
    let written = c.args.unsettled.now in
    let content = c.picked-content.result in
    let inside : i < length items = omega arith in
    let pick : c.if-i-picks.pick ≡ get_or c.args.picks.now i 0 = elim c.if-i-picks.branch [ then-i-picks w ↦ w.pick-is | else-i-picks w ↦ w.pick-is ∙ sym (get_or_past c.args.picks.now i 0 w.if-i-picks.false) ] in
    let old : c.index.result.now ≡ get_or c.args.settled.now.items i [] = get_or_read_under items i (length items) c.index.result.now [] c.index.ensures inside refl ∙ inv.rest i (omega arith) in
    record {
      size = length-set items i content ∙ inv.size;
      done = below_more (λ k. get_or (set items i content) k [] ≡ picked_of (get_or c.args.picks.now k 0) (get_or c.args.settled.now.items k [] ∷ written_to k written)) i
          (λ k below. let other : k ≢ i = omega arith in get_or-set_other items i k content [] other ∙ inv.done k below)
          (get_or-set_same items i content [] inside ∙ c.picked-content.ensures ∙ ap (λ (n : ℕ). picked_of n (c.index.result.now ∷ written_to i written)) pick ∙ ap (λ (s : List ℕ). picked_of (get_or c.args.picks.now i 0) (s ∷ written_to i written)) old);
      rest = λ k le. let other : k ≢ i = omega arith in get_or-set_other items i k content [] other ∙ inv.rest k (omega (arith, le));
    }

pub returns-clause-size : goal.returns-clause-size
returns-clause-size c = c.loop-i.invariant.size

pub returns-clause-picked : goal.returns-clause-picked
returns-clause-picked c = λ i lt. c.loop-i.invariant.done i (omega (arith, lt))
