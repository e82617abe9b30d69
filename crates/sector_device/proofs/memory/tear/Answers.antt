use Rattle.std.proofs.Common.{◌∙◌, ◌<◌, sym, subst, length, get_or, [], ℕ, arith}
use Rattle.sector_device.specs.Disk.{HasShape}
use Rattle.sector_device.specs.Kept.{written_near}
use Rattle.sector_device.proofs.Torn.{next_then}
use Rattle.sector_device.proofs.memory.tear.Goals as goal

pub loop-torn-preserved : goal.loop-torn-preserved
loop-torn-preserved c =
    let inv = c.loop-torn.invariant in
    let one = c.tear_one.ensures in
    let items = c.loop-torn.settled.items in
    record {
      size = one.size ∙ inv.size;
      shape = λ old. subst (λ (n : ℕ). HasShape n c.tear_one.new.settled.items) inv.size (one.shape (subst (λ (n : ℕ). HasShape n items) (sym inv.size) (inv.shape old)));
      rest = λ i lt.
          let inside : i < length items = omega (arith, lt, one.size) in
          next_then c.args.damage.now c.loop-torn.torn-index _ (written_near i c.args.unsettled.now) i (get_or items i []) (get_or c.tear_one.new.settled.items i []) c.loop-torn-test.true (one.torn i inside) ∙ inv.rest i inside;
    }
