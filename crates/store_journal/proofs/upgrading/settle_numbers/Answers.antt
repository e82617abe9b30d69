use Rattle.std.proofs.Common.{◌+◌, ◌-◌, ◌≤◌, ◌%◌, inl, inr, refl, sym, subst, ◌∙◌, arith, None}
use Rattle.std.proofs.lemmas.Bool.Decides.{nat_tests}
use Rattle.sector_device.specs.Disk.{Image}
use Rattle.sector_device.proofs.Charges.{failed_joined, failed_more, failed_one, made_joined, made_one}
use Rattle.commit_slots.specs.Fresh.{IsFresh}
use Rattle.slot_commits.specs.Loads.{number_end}
use Rattle.slot_commits.proofs.Puts.{keeps_synced, seen_by, syncs_by}
use Rattle.store_journal.proofs.Formats.{keeps_joined}
use Rattle.store_journal.proofs.Upgrades.{odd_fresh, spent}
use Rattle.store_journal.proofs.upgrading.settle_numbers.Goals as goal

pub returns-in-Err-clause-refused : goal.returns-in-Err-clause-refused
returns-in-Err-clause-refused g c =
    let old = g.D.SectorDevice.disk c.args.device.now in
    let mid = g.D.SectorDevice.disk c.sync.new.self in
    inr (inr (refl, failed_more old mid 1 129 (omega arith) (failed_one old mid _ c.in-Err.ensures.counts)))

pub returns-in-Err-Memory-clause-keeps : goal.returns-in-Err-Memory-clause-keeps
returns-in-Err-Memory-clause-keeps g c =
    let disk = g.D.SectorDevice.disk in
    let old = disk c.args.device.now in
    let mid = disk c.sync.new.self in
    let new = disk c.find.new.device in
    let kept = λ (honest : new.honest).
    let was_mid = c.find.ensures.same.honest honest in
    let was = c.sync.ensures.counts.honest was_mid in
    keeps_joined old mid new (keeps_synced None old mid c.sync.result (g.met.D.SectorDevice.coherent c.args.device.now was) (c.sync.ensures.syncs was)) (c.find.ensures.keeps None honest) in
    let first = made_one old mid _ c.in-Ok.ensures.counts in
    kept

pub returns-in-Err-Device-clause-keeps : goal.returns-in-Err-Device-clause-keeps
returns-in-Err-Device-clause-keeps g c =
    let disk = g.D.SectorDevice.disk in
    let old = disk c.args.device.now in
    let mid = disk c.sync.new.self in
    let new = disk c.find.new.device in
    let kept = λ (honest : new.honest).
    let was_mid = c.find.ensures.same.honest honest in
    let was = c.sync.ensures.counts.honest was_mid in
    keeps_joined old mid new (keeps_synced None old mid c.sync.result (g.met.D.SectorDevice.coherent c.args.device.now was) (c.sync.ensures.syncs was)) (c.find.ensures.keeps None honest) in
    let first = made_one old mid _ c.in-Ok.ensures.counts in
    kept

pub returns-then-highest-clause-keeps : goal.returns-then-highest-clause-keeps
returns-then-highest-clause-keeps g c =
    let disk = g.D.SectorDevice.disk in
    let old = disk c.args.device.now in
    let mid = disk c.sync.new.self in
    let new = disk c.find.new.device in
    let kept = λ (honest : new.honest).
    let was_mid = c.find.ensures.same.honest honest in
    let was = c.sync.ensures.counts.honest was_mid in
    keeps_joined old mid new (keeps_synced None old mid c.sync.result (g.met.D.SectorDevice.coherent c.args.device.now was) (c.sync.ensures.syncs was)) (c.find.ensures.keeps None honest) in
    let first = made_one old mid _ c.in-Ok.ensures.counts in
    kept

pub returns-clause-keeps : goal.returns-clause-keeps
returns-clause-keeps g c =
    let disk = g.D.SectorDevice.disk in
    let old = disk c.args.device.now in
    let mid = disk c.sync.new.self in
    let new = disk c.find.new.device in
    let kept = λ (honest : new.honest).
    let was_mid = c.find.ensures.same.honest honest in
    let was = c.sync.ensures.counts.honest was_mid in
    keeps_joined old mid new (keeps_synced None old mid c.sync.result (g.met.D.SectorDevice.coherent c.args.device.now was) (c.sync.ensures.syncs was)) (c.find.ensures.keeps None honest) in
    let first = made_one old mid _ c.in-Ok.ensures.counts in
    kept

pub returns-in-Err-Memory-clause-refused : goal.returns-in-Err-Memory-clause-refused
returns-in-Err-Memory-clause-refused g c =
    let disk = g.D.SectorDevice.disk in
    let old = disk c.args.device.now in
    let mid = disk c.sync.new.self in
    let new = disk c.find.new.device in
    let kept = λ (honest : new.honest).
    let was_mid = c.find.ensures.same.honest honest in
    let was = c.sync.ensures.counts.honest was_mid in
    keeps_joined old mid new (keeps_synced None old mid c.sync.result (g.met.D.SectorDevice.coherent c.args.device.now was) (c.sync.ensures.syncs was)) (c.find.ensures.keeps None honest) in
    let first = made_one old mid _ c.in-Ok.ensures.counts in
    let some = rw c.in-Err-Memory.field-0-is at c.in-Err-Memory.ensures.charges in
    inl (refl, record { kept = kept; calls = 1 + some.0; few = omega (arith, some.1); made = made_joined old mid new 1 some.0 first some.2 })

pub returns-in-Err-Device-clause-refused : goal.returns-in-Err-Device-clause-refused
returns-in-Err-Device-clause-refused g c =
    let disk = g.D.SectorDevice.disk in
    let old = disk c.args.device.now in
    let mid = disk c.sync.new.self in
    let new = disk c.find.new.device in
    let kept = λ (honest : new.honest).
    let was_mid = c.find.ensures.same.honest honest in
    let was = c.sync.ensures.counts.honest was_mid in
    keeps_joined old mid new (keeps_synced None old mid c.sync.result (g.met.D.SectorDevice.coherent c.args.device.now was) (c.sync.ensures.syncs was)) (c.find.ensures.keeps None honest) in
    let first = made_one old mid _ c.in-Ok.ensures.counts in
    let failed = rw c.in-Err-Device.field-0-is at c.in-Err-Device.ensures.charges in
    inr (inr (refl, failed_joined old mid new 1 128 129 (omega arith) first failed))

pub returns-then-highest-clause-refused : goal.returns-then-highest-clause-refused
returns-then-highest-clause-refused g c =
    let disk = g.D.SectorDevice.disk in
    let old = disk c.args.device.now in
    let mid = disk c.sync.new.self in
    let new = disk c.find.new.device in
    let kept = λ (honest : new.honest).
    let was_mid = c.find.ensures.same.honest honest in
    let was = c.sync.ensures.counts.honest was_mid in
    keeps_joined old mid new (keeps_synced None old mid c.sync.result (g.met.D.SectorDevice.coherent c.args.device.now was) (c.sync.ensures.syncs was)) (c.find.ensures.keeps None honest) in
    let first = made_one old mid _ c.in-Ok.ensures.counts in
    let found = c.in-Ok-find.found in
    let high : number_end - 3 ≤ found.highest = grind (arith, nat_tests, c.if-highest.true) in
    inr (inl (
      refl,
      (λ honest leaves.
          let was = c.sync.ensures.counts.honest (c.find.ensures.same.honest honest) in
          spent mid.seen found high (c.in-Ok-find.ensures.found honest) (subst (λ (i : Image). IsFresh (number_end - 3) i) (sym (c.sync.ensures.syncs was).seen) leaves)),
      record { kept = kept; calls = 129; few = omega arith; made = made_joined old mid new 1 128 first c.in-Ok-find.ensures.charges },
    ))

pub returns-clause-can : goal.returns-clause-can
returns-clause-can g c = λ torn told honest.
    let disk = g.D.SectorDevice.disk in
    let old = disk c.args.device.now in
    let mid = disk c.sync.new.self in
    let new = disk c.find.new.device in
    let kept = λ (honest : new.honest).
    let was_mid = c.find.ensures.same.honest honest in
    let was = c.sync.ensures.counts.honest was_mid in
    keeps_joined old mid new (keeps_synced None old mid c.sync.result (g.met.D.SectorDevice.coherent c.args.device.now was) (c.sync.ensures.syncs was)) (c.find.ensures.keeps None honest) in
    let first = made_one old mid _ c.in-Ok.ensures.counts in
    let found = c.in-Ok-find.found in
    let was = c.sync.ensures.counts.honest (c.find.ensures.same.honest honest) in
    let syncs = syncs_by torn old mid (c.in-Ok.ensures.syncs was) (λ t. c.in-Ok.ensures.torn t was) in
    let seen = sym (c.find.ensures.keeps None honest).seen in
    record {
      told = told;
      honest = honest;
      alone = λ image left. syncs.settled image ((c.find.ensures.keeps torn honest).left image left) ∙ seen_by torn old ∙ sym (c.sync.ensures.syncs was).seen ∙ seen;
      fresh = subst (IsFresh (found.highest + 1 + found.highest % 2)) seen (odd_fresh mid.seen found (c.in-Ok-find.ensures.found honest));
    }
