use Rattle.std.proofs.Common.{inl, inr, refl}
use Rattle.store_journal.proofs.First.{keeps_models}
use Rattle.store_journal.proofs.outdated.newest.Goals as goal

pub returns-in-Err-clause-err : goal.returns-in-Err-clause-err
returns-in-Err-clause-err g c =
    let disk = g.D.SectorDevice.disk in
    let looked = c.is_outdated.ensures in
    record { same = looked.same; keeps = keeps_models (disk c.args.device) (disk c.is_outdated.new.device) looked.same.size looked.keeps; why = inr c.in-Err.ensures.err }

pub returns-in-Ok-true-clause-err : goal.returns-in-Ok-true-clause-err
returns-in-Ok-true-clause-err g c =
    let disk = g.D.SectorDevice.disk in
    let looked = c.is_outdated.ensures in
    record {
      same = looked.same;
      keeps = keeps_models (disk c.args.device) (disk c.is_outdated.new.device) looked.same.size looked.keeps;
      why = inl (refl, (λ honest. (c.in-Ok-true.ensures.outdated honest).0 c.in-Ok-true.field-0-test), c.in-Ok-true.ensures.looked);
    }

pub returns-in-Ok-false-clause-ok : goal.returns-in-Ok-false-clause-ok
returns-in-Ok-false-clause-ok g c =
    let disk = g.D.SectorDevice.disk in
    let looked = c.is_outdated.ensures in
    record {
      same = looked.same;
      keeps = keeps_models (disk c.args.device) (disk c.is_outdated.new.device) looked.same.size looked.keeps;
      newest = λ honest out. let is_true = (c.in-Ok-false.ensures.outdated honest).1 out in absurd (cc (is_true, c.in-Ok-false.field-0-test));
      looked = c.in-Ok-false.ensures.looked;
    }
