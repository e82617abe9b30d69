use Rattle.std.proofs.Common.{◌≡◌, ◌*◌, ◌/◌, ◌<◌, List, ℕ, subst, ap, ◌∙◌, arith, None}
use Rattle.sector_device.specs.Charges.{Made}
use Rattle.sector_device.proofs.Charges.{made_none, made_one, made_joined, charges_err, failed_one, failed_joined, same_none, same_one, same_joined}
use Rattle.commit_slots.specs.Slots.{slot_sector}
use Rattle.slot_commits.specs.Formats.{IsFirst, numbered}
use Rattle.slot_commits.proofs.Copies.{coherent_by, no_ok}
use Rattle.slot_commits.proofs.Plans.{below_write, plan_failed, plan_none, plan_same, plan_seen, plan_step}
use Rattle.slot_commits.proofs.formatting.write_firsts.Goals as goal

pub returns-in_err-write : goal.returns-in_err-write
returns-in_err-write g c =
    let disk = g.D.SectorDevice.disk in
    let old = disk c.args.device.now in
    let mid = disk c.loop-place.device in
    let new = disk c.write.new.self in
    let inv = c.loop-place.invariant in
    let k = c.loop-place.place in
    let slot = c.args.slot.now in
    let tail = c.args.tail.now in
    let content = c.slot_sector.result in
    let plan = IsFirst slot tail in
    let few : k < 4 = c.loop-place-test.true in
    let lt : 32 * k < 128 = omega (arith, few) in
    let planned : plan (32 * k) content = (omega arith, c.slot_sector.ensures ∙ ap (λ (n : ℕ). slot_sector (numbered slot n) tail 0) (omega arith)) in
    record {
      same = same_joined old mid new inv.same (same_one mid new c.write.result c.write.ensures.counts (λ h. (c.write.ensures.writes h).honest));
      charges = charges_err old new 4 c.from_residual.result c.from_residual.ensures.0 (failed_joined old mid new k 1 4 (omega (arith, few)) inv.made (failed_one mid new _ c.in_err-write.ensures.counts));
      any_moment = λ torn honest.
          let now = inv.same.honest.0 honest in
          plan_step torn plan old mid new (32 * k) content lt planned (coherent_by torn mid (g.met.D.SectorDevice.coherent c.loop-place.device now) (g.met.D.SectorDevice.torn_coherent c.loop-place.device now)) (inv.any_moment torn honest)
          (c.write.ensures.writes now) (λ t. c.write.ensures.torn t now);
      seen = λ honest.
          let now = inv.same.honest.0 honest in
          plan_failed plan old.seen mid.seen new.seen (32 * k) content lt planned (inv.seen honest) (c.in_err-write.ensures.writes now).failed;
      written = λ honest. no_ok _ c.from_residual.result c.from_residual.ensures.0;
    }

pub loop-place-init : goal.loop-place-init
loop-place-init g c =
    let old = g.D.SectorDevice.disk c.args.device.now in
    record {
      same = same_none old;
      made = made_none old;
      any_moment = λ torn honest. plan_none torn (IsFirst c.args.slot.now c.args.tail.now) old (coherent_by torn old (g.met.D.SectorDevice.coherent c.args.device.now honest) (g.met.D.SectorDevice.torn_coherent c.args.device.now honest));
      seen = λ honest. plan_same None (IsFirst c.args.slot.now c.args.tail.now) old.seen;
      written = λ honest j lt. absurd (omega (arith, lt));
    }

pub loop-place-preserved : goal.loop-place-preserved
loop-place-preserved g c =
    let disk = g.D.SectorDevice.disk in
    let old = disk c.args.device.now in
    let mid = disk c.loop-place.device in
    let new = disk c.write.new.self in
    let inv = c.loop-place.invariant in
    let k = c.loop-place.place in
    let slot = c.args.slot.now in
    let tail = c.args.tail.now in
    let content = c.slot_sector.result in
    let plan = IsFirst slot tail in
    let few : k < 4 = c.loop-place-test.true in
    let lt : 32 * k < 128 = omega (arith, few) in
    let planned : plan (32 * k) content = (omega arith, c.slot_sector.ensures ∙ ap (λ (n : ℕ). slot_sector (numbered slot n) tail 0) (omega arith)) in
    record {
      same = same_joined old mid new inv.same (same_one mid new c.write.result c.write.ensures.counts (λ h. (c.write.ensures.writes h).honest));
      made = made_joined old mid new k 1 inv.made (made_one mid new _ c.in_ok-write.ensures.counts);
      any_moment = λ torn honest.
          let now = inv.same.honest.0 honest in
          plan_step torn plan old mid new (32 * k) content lt planned (coherent_by torn mid (g.met.D.SectorDevice.coherent c.loop-place.device now) (g.met.D.SectorDevice.torn_coherent c.loop-place.device now)) (inv.any_moment torn honest)
          (c.write.ensures.writes now) (λ t. c.write.ensures.torn t now);
      seen = λ honest.
          let now = inv.same.honest.0 honest in
          plan_seen plan old.seen mid.seen new.seen (32 * k) content lt planned (inv.seen honest) (c.in_ok-write.ensures.writes now).seen;
      written = λ honest.
          let now = inv.same.honest.0 honest in
          let shape = g.met.D.SectorDevice.coherent c.loop-place.device now in
          below_write (λ (j : ℕ). 32 * j) (λ (j : ℕ) (s : List ℕ). s ≡ slot_sector (numbered c.args.slot.now (j / 2)) c.args.tail.now 0) mid.seen new.seen k content (c.in_ok-write.ensures.writes now).seen (omega (arith, (shape.shape mid.seen shape.seen).count, inv.same.size, few, c.requires.room))
          (λ j below same. omega (arith, below, same)) c.slot_sector.ensures (inv.written honest);
    }

pub returns : goal.returns
returns g c =
    let inv = c.loop-place.invariant in
    let count : c.loop-place.place ≡ 4 = omega (arith, c.loop-place-test.false, c.loop-place.auto.place-end) in
    record {
      same = inv.same;
      charges = subst (λ (n : ℕ). Made (g.D.SectorDevice.disk c.args.device.now) (g.D.SectorDevice.disk c.loop-place.device) n) count inv.made;
      any_moment = inv.any_moment;
      seen = inv.seen;
      written = λ honest k lt. inv.written honest k (omega (arith, lt, count));
    }
