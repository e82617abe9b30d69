use Rattle.std.proofs.Common.{◌∙◌, ◌++◌, [], refl}
use Rattle.store_salvage.proofs.Gathers.{adds_append}
use Rattle.store_salvage.proofs.taking.fill.Goals as goal

pub loop-frame-init : goal.loop-frame-init
loop-frame-init c = record { adds = ([], (refl, refl)); doubts = refl; good = c.requires.good }

pub loop-frame-preserved : goal.loop-frame-preserved
loop-frame-preserved c =
    let old = c.args.gathered in
    let mid = c.loop-frame.gathered in
    let new = c.in_ok-gathered.gathered in
    let one = c.loop-frame.invariant.adds in
    let other = c.in_ok-gathered.ensures.adds in
    record {
      adds = (one.0 ++ other.0, adds_append c.args.parts.now old.last old.machine one.0 mid.last mid.machine other.0 new.last new.machine one.1 other.1);
      doubts = c.in_ok-gathered.ensures.doubts ∙ c.loop-frame.invariant.doubts;
      good = c.in_ok-gathered.ensures.good;
    }
