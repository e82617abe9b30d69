use Rattle.std.proofs.Common.{◌≡◌, ◌<◌, List, ℕ, subst, arith}
use Rattle.sector_device.specs.Charges.{Made}
use Rattle.sector_device.proofs.Charges.{made_none, made_one, made_joined, charges_err, failed_one, failed_joined, same_none, same_one, same_joined}
use Rattle.slot_commits.specs.Formats.{IsRest}
use Rattle.slot_commits.proofs.Copies.{coherent_by, no_ok}
use Rattle.slot_commits.proofs.Plans.{below_write, plan_none, plan_step}
use Rattle.slot_commits.proofs.formatting.write_rests.Goals as goal

pub returns-in_err-write : goal.returns-in_err-write
returns-in_err-write g c =
    let disk = g.D.SectorDevice.disk in
    let old = disk c.args.device.now in
    let mid = disk c.loop-k.device in
    let new = disk c.write.new.self in
    let inv = c.loop-k.invariant in
    let k = c.loop-k.k in
    let slot = c.args.slot.now in
    let tail = c.args.tail.now in
    let content = c.rest_sector.result in
    let plan = IsRest slot tail in
    let few : k < 128 = c.loop-k-test.true in
    let lt : k < 128 = omega (arith, few) in
    let planned : plan (k) content = c.rest_sector.ensures in
    record {
      same = same_joined old mid new inv.same (same_one mid new c.write.result c.write.ensures.counts (λ h. (c.write.ensures.writes h).honest));
      charges = charges_err old new 128 c.from_residual.result c.from_residual.ensures.0 (failed_joined old mid new k 1 128 (omega (arith, few)) inv.made (failed_one mid new _ c.in_err-write.ensures.counts));
      any_moment = λ torn honest.
          let now = inv.same.honest.0 honest in
          plan_step torn plan old mid new (k) content lt planned (coherent_by torn mid (g.met.D.SectorDevice.coherent c.loop-k.device now) (g.met.D.SectorDevice.torn_coherent c.loop-k.device now)) (inv.any_moment torn honest)
          (c.write.ensures.writes now) (λ t. c.write.ensures.torn t now);
      written = λ honest. no_ok _ c.from_residual.result c.from_residual.ensures.0;
    }

pub loop-k-init : goal.loop-k-init
loop-k-init g c =
    let old = g.D.SectorDevice.disk c.args.device.now in
    record {
      same = same_none old;
      made = made_none old;
      any_moment = λ torn honest. plan_none torn (IsRest c.args.slot.now c.args.tail.now) old (coherent_by torn old (g.met.D.SectorDevice.coherent c.args.device.now honest) (g.met.D.SectorDevice.torn_coherent c.args.device.now honest));
      written = λ honest j lt. absurd (omega (arith, lt));
    }

pub loop-k-preserved : goal.loop-k-preserved
loop-k-preserved g c =
    let disk = g.D.SectorDevice.disk in
    let old = disk c.args.device.now in
    let mid = disk c.loop-k.device in
    let new = disk c.write.new.self in
    let inv = c.loop-k.invariant in
    let k = c.loop-k.k in
    let slot = c.args.slot.now in
    let tail = c.args.tail.now in
    let content = c.rest_sector.result in
    let plan = IsRest slot tail in
    let few : k < 128 = c.loop-k-test.true in
    let lt : k < 128 = omega (arith, few) in
    let planned : plan (k) content = c.rest_sector.ensures in
    record {
      same = same_joined old mid new inv.same (same_one mid new c.write.result c.write.ensures.counts (λ h. (c.write.ensures.writes h).honest));
      made = made_joined old mid new k 1 inv.made (made_one mid new _ c.in_ok-write.ensures.counts);
      any_moment = λ torn honest.
          let now = inv.same.honest.0 honest in
          plan_step torn plan old mid new (k) content lt planned (coherent_by torn mid (g.met.D.SectorDevice.coherent c.loop-k.device now) (g.met.D.SectorDevice.torn_coherent c.loop-k.device now)) (inv.any_moment torn honest)
          (c.write.ensures.writes now) (λ t. c.write.ensures.torn t now);
      written = λ honest.
          let now = inv.same.honest.0 honest in
          let shape = g.met.D.SectorDevice.coherent c.loop-k.device now in
          below_write (λ (j : ℕ). j) (λ (j : ℕ) (s : List ℕ). IsRest c.args.slot.now c.args.tail.now j s) mid.seen new.seen k content (c.in_ok-write.ensures.writes now).seen (omega (arith, (shape.shape mid.seen shape.seen).count, inv.same.size, few, c.requires.room))
          (λ j below same. omega (arith, below, same)) planned (inv.written honest);
    }

pub returns : goal.returns
returns g c =
    let inv = c.loop-k.invariant in
    let count : c.loop-k.k ≡ 128 = omega (arith, c.loop-k-test.false, c.loop-k.auto.k-end) in
    record {
      same = inv.same;
      charges = subst (λ (n : ℕ). Made (g.D.SectorDevice.disk c.args.device.now) (g.D.SectorDevice.disk c.loop-k.device) n) count inv.made;
      any_moment = inv.any_moment;
      written = λ honest k lt. inv.written honest k (omega (arith, lt, count));
    }
