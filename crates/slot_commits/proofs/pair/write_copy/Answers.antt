use Rattle.std.proofs.Common.{◌≡◌, ◌+◌, ◌<◌, ℕ, [], length, get_or, subst, ap, arith}
use Rattle.sector_device.specs.Charges.{Made}
use Rattle.sector_device.proofs.Charges.{made_none, made_one, made_joined, charges_err, failed_one, failed_joined, same_none, same_one, same_joined}
use Rattle.commit_slots.specs.Slots.{IsHeld, count_of, slot_start}
use Rattle.slot_commits.proofs.Copies.{coherent_by, held_more, no_ok, none_yet, seen_failed, seen_more, slot_same, step_leaves, written_by}
use Rattle.slot_commits.proofs.pair.write_copy.Goals as goal

pub write-requires : goal.write-requires
write-requires g c =
    omega (arith, c.slot_start-first.ensures, c.loop-k-test.true, c.sectors_of_tail-k-end.ensures, c.requires.fits, c.requires.copy, c.requires.room, c.loop-k.invariant.same.size)

pub returns-in_err-write : goal.returns-in_err-write
returns-in_err-write g c =
    let disk = g.D.SectorDevice.disk in
    let coherent = g.met.D.SectorDevice.coherent in
    let tears = g.met.D.SectorDevice.torn_coherent in
    let old = disk c.args.device.now in
    let mid = disk c.loop-k.device in
    let new = disk c.write.new.self in
    let inv = c.loop-k.invariant in
    let k = c.loop-k.k in
    let slot = c.args.slot.now in
    let tail = c.args.tail.now in
    let content = get_or c.args.sectors.now k [] in
    let count = count_of (length tail) in
    let at : c.slot_start-first.result + k ≡ slot_start slot.number c.args.copy + k = ap (λ (n : ℕ). n + k) c.slot_start-first.ensures in
    let lt : k < count = omega (arith, c.loop-k-test.true, c.sectors_of_tail-k-end.ensures) in
    let few : k < 32 = omega (arith, lt, c.requires.fits) in
    record {
      same = same_joined old mid new inv.same (same_one mid new c.write.result c.write.ensures.counts (λ h. (c.write.ensures.writes h).honest));
      charges = charges_err old new count c.from_residual.result c.from_residual.ensures.0 (failed_joined old mid new k 1 count (omega (arith, lt)) inv.made (failed_one mid new _ c.in_err-write.ensures.counts));
      any_moment = λ torn honest.
          let now = inv.same.honest.0 honest in
          step_leaves torn slot tail c.args.copy old mid new k content lt few (c.requires.made k lt) (coherent_by torn mid (coherent c.loop-k.device now) (tears c.loop-k.device now)) (inv.any_moment torn honest)
          (written_by torn mid new c.slot_start-first.result k slot.number c.args.copy content at (c.write.ensures.writes now) (λ t. c.write.ensures.torn t now));
      seen = λ honest.
          let now = inv.same.honest.0 honest in
          seen_failed slot tail c.args.copy old.seen mid.seen new.seen c.slot_start-first.result k content lt few (c.requires.made k lt) at (inv.seen honest) (c.in_err-write.ensures.writes now).failed;
      held = λ honest. no_ok (IsHeld slot tail (slot_start slot.number c.args.copy) new.seen) c.from_residual.result c.from_residual.ensures.0;
    }

pub loop-k-init : goal.loop-k-init
loop-k-init g c =
    let old = g.D.SectorDevice.disk c.args.device.now in
    record {
      same = same_none old;
      made = made_none old;
      any_moment = λ torn honest. none_yet torn c.args.slot.now c.args.tail.now c.args.copy old (coherent_by torn old (g.met.D.SectorDevice.coherent c.args.device.now honest) (g.met.D.SectorDevice.torn_coherent c.args.device.now honest));
      seen = λ honest. slot_same _ c.args.slot.now c.args.tail.now c.args.copy old.seen;
      held = λ honest k lt. absurd (omega (arith, lt));
    }

pub loop-k-preserved : goal.loop-k-preserved
loop-k-preserved g c =
    let disk = g.D.SectorDevice.disk in
    let coherent = g.met.D.SectorDevice.coherent in
    let tears = g.met.D.SectorDevice.torn_coherent in
    let old = disk c.args.device.now in
    let mid = disk c.loop-k.device in
    let new = disk c.write.new.self in
    let inv = c.loop-k.invariant in
    let k = c.loop-k.k in
    let slot = c.args.slot.now in
    let tail = c.args.tail.now in
    let content = get_or c.args.sectors.now k [] in
    let at : c.slot_start-first.result + k ≡ slot_start slot.number c.args.copy + k = ap (λ (n : ℕ). n + k) c.slot_start-first.ensures in
    let lt : k < count_of (length tail) = omega (arith, c.loop-k-test.true, c.sectors_of_tail-k-end.ensures) in
    let few : k < 32 = omega (arith, lt, c.requires.fits) in
    record {
      same = same_joined old mid new inv.same (same_one mid new c.write.result c.write.ensures.counts (λ h. (c.write.ensures.writes h).honest));
      made = made_joined old mid new k 1 inv.made (made_one mid new _ c.in_ok-write.ensures.counts);
      any_moment = λ torn honest.
          let now = inv.same.honest.0 honest in
          step_leaves torn slot tail c.args.copy old mid new k content lt few (c.requires.made k lt) (coherent_by torn mid (coherent c.loop-k.device now) (tears c.loop-k.device now)) (inv.any_moment torn honest)
          (written_by torn mid new c.slot_start-first.result k slot.number c.args.copy content at (c.write.ensures.writes now) (λ t. c.write.ensures.torn t now));
      seen = λ honest.
          let now = inv.same.honest.0 honest in
          seen_more slot tail c.args.copy old.seen mid.seen new.seen c.slot_start-first.result k content lt few (c.requires.made k lt) at (inv.seen honest) (c.in_ok-write.ensures.writes now).seen;
      held = λ honest.
          let now = inv.same.honest.0 honest in
          let shape = coherent c.loop-k.device now in
          held_more slot tail c.args.copy old.seen mid.seen new.seen c.slot_start-first.result k content lt few (c.requires.made k lt) at
          (omega (arith, (shape.shape mid.seen shape.seen).count, inv.same.size, lt, few, c.requires.room, c.requires.copy)) (c.in_ok-write.ensures.writes now).seen (inv.held honest);
    }

pub returns : goal.returns
returns g c =
    let inv = c.loop-k.invariant in
    let count : c.loop-k.k ≡ count_of (length c.args.tail.now) = omega (arith, c.loop-k-test.false, c.loop-k.auto.k-end, c.sectors_of_tail-k-end.ensures) in
    record {
      same = inv.same;
      charges = subst (λ (n : ℕ). Made (g.D.SectorDevice.disk c.args.device.now) (g.D.SectorDevice.disk c.loop-k.device) n) count inv.made;
      any_moment = inv.any_moment;
      seen = inv.seen;
      held = λ honest k lt. inv.held honest k (omega (arith, lt, count));
    }
