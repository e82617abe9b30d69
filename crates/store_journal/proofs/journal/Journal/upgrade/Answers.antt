use Rattle.std.proofs.Common.{true, inr, length, refl, sym, ap, subst, ◌∙◌}
use Rattle.store_journal.specs.Carries.{turned}
use Rattle.store_journal.specs.Fields.{view_of}
use Rattle.store_journal.specs.Held.{HasRoom, IsOf, numbers_of}
use Rattle.store_journal.specs.JournalView.{JournalView, carried_of}
use Rattle.store_journal.specs.Writes.{upgrade_calls}
use Rattle.store_journal.specs.declared.held.Held.{Held}
use Rattle.store_journal.proofs.Lifts.{kept_of}
use Rattle.store_journal.proofs.Seen.{reads_of}
use Rattle.store_journal.proofs.Steps.{after, none_copied, sound_after}
use Rattle.store_journal.proofs.Turns.{looked_of, of_kept, upgrade_halted, upgrade_unwritten, upgraded_to}
use Rattle.store_journal.proofs.journal.Journal.upgrade.Goals as goal

pub invariant_of-self : goal.invariant_of-self
invariant_of-self g c =
    let j = c.self.inside in
    let new = after {G = g.D.SectorDevice} c.upgrade.new.device c.upgrade.new.held j.broken 0 c.upgrade.ensures.formed (none_copied c.upgrade.new.held) in
    sound_after new (turned true c.args.identity (carried_of (view_of j)) c.args.target.now) g.met.D.SectorDevice.coherent g.met.D.SectorDevice.torn_coherent
    (λ honest works. let was = c.upgrade.ensures.same.honest honest in (c.in-Ok.ensures.tried (carried_of (view_of j)) honest (c.self.invariant was works)).done)

pub returns-in-Ok-clause-kept : goal.returns-in-Ok-clause-kept
returns-in-Ok-clause-kept g c =
    let j = c.self.inside in
    let new = after {G = g.D.SectorDevice} c.upgrade.new.device c.upgrade.new.held j.broken 0 c.upgrade.ensures.formed (none_copied c.upgrade.new.held) in
    kept_of new (g.met.D.SectorDevice.coherent c.upgrade.new.device) (g.met.D.SectorDevice.torn_coherent c.upgrade.new.device) (invariant_of-self g c)

pub returns-in-Ok-clause-ok : goal.returns-in-Ok-clause-ok
returns-in-Ok-clause-ok g c =
    let j = c.self.inside in
    let target = c.args.target.now in
    let works = (ap (λ (v : JournalView g.row.D.Denot). v.broken) c.self.view_is ∙ sym c.is_broken.ensures.broken ∙ c.if-is_broken.false) in
    let new = after {G = g.D.SectorDevice} c.upgrade.new.device c.upgrade.new.held j.broken 0 c.upgrade.ensures.formed (none_copied c.upgrade.new.held) in
    rw (← c.self.view_is)
    (upgraded_to j new c.args.identity target (numbers_of c.upgrade.new.held).next (numbers_of c.upgrade.new.held).blocks c.in-Ok.ensures.numbers c.in-Ok.ensures.next works works refl (λ honest. c.in-Ok.ensures.leaves honest)
    (λ honest.
    let was = c.upgrade.ensures.same.honest honest in
    reads_of (g.D.SectorDevice.disk c.upgrade.new.device) (g.met.D.SectorDevice.coherent c.upgrade.new.device honest) (g.met.D.SectorDevice.torn_coherent c.upgrade.new.device honest) c.upgrade.new.held (turned true c.args.identity (carried_of (view_of j)) target) c.upgrade.ensures.formed
    (c.in-Ok.ensures.tried (carried_of (view_of j)) honest (c.self.invariant was works)).done)
    c.in-Ok.ensures.made)

pub invariant_of-self-else-fault-eq-DEVICE : goal.invariant_of-self-else-fault-eq-DEVICE
invariant_of-self-else-fault-eq-DEVICE g c =
    let j = c.self.inside in
    let old = g.D.SectorDevice.disk j.device in
    let new_disk = g.D.SectorDevice.disk c.upgrade.new.device in
    let plain = ap (λ (v : JournalView g.row.D.Denot). v.rides) c.self.view_is ∙ c.requires.plain in
    let room = subst (λ (h : Held). HasRoom h j.copied) (sym c.in-Err.ensures.stays) j.room in
    let new = after {G = g.D.SectorDevice} c.upgrade.new.device c.upgrade.new.held j.broken j.copied c.upgrade.ensures.formed room in
    sound_after new (carried_of (view_of j)) g.met.D.SectorDevice.coherent g.met.D.SectorDevice.torn_coherent
    (λ honest works.
    let was = c.upgrade.ensures.same.honest honest in
    let looked = looked_of old new_disk (upgrade_calls (length c.args.target.now)) c.in-Err.fault.number c.if-fault-eq-DEVICE.false c.in-Err.ensures.refused in
    subst (λ (h : Held). IsOf new_disk h (carried_of (view_of j))) (sym c.in-Err.ensures.stays) (of_kept old new_disk j.held (carried_of (view_of j)) plain (looked.kept honest) (c.self.invariant was works)))

pub returns-in-Err-2-clause-err : goal.returns-in-Err-2-clause-err
returns-in-Err-2-clause-err g c =
    let j = c.self.inside in
    let works = (ap (λ (v : JournalView g.row.D.Denot). v.broken) c.self.view_is ∙ sym c.is_broken.ensures.broken ∙ c.if-is_broken.false) in
    let room = subst (λ (h : Held). HasRoom h j.copied) (sym c.in-Err.ensures.stays) j.room in
    let new = after {G = g.D.SectorDevice} c.upgrade.new.device c.upgrade.new.held j.broken j.copied c.upgrade.ensures.formed room in
    rw (← c.self.view_is)
    (upgrade_unwritten j new (upgrade_calls (length c.args.target.now)) c.in-Err.fault.number c.if-fault-eq-DEVICE.false c.in-Err.ensures.stays refl works works c.in-Err.ensures.refused)

pub returns-in-Err-2-clause-kept : goal.returns-in-Err-2-clause-kept
returns-in-Err-2-clause-kept g c =
    let j = c.self.inside in
    let old = g.D.SectorDevice.disk j.device in
    let new_disk = g.D.SectorDevice.disk c.upgrade.new.device in
    let plain = ap (λ (v : JournalView g.row.D.Denot). v.rides) c.self.view_is ∙ c.requires.plain in
    let room = subst (λ (h : Held). HasRoom h j.copied) (sym c.in-Err.ensures.stays) j.room in
    let new = after {G = g.D.SectorDevice} c.upgrade.new.device c.upgrade.new.held j.broken j.copied c.upgrade.ensures.formed room in
    kept_of new (g.met.D.SectorDevice.coherent c.upgrade.new.device) (g.met.D.SectorDevice.torn_coherent c.upgrade.new.device)
    (sound_after new (carried_of (view_of j)) g.met.D.SectorDevice.coherent g.met.D.SectorDevice.torn_coherent
    (λ honest works.
    let was = c.upgrade.ensures.same.honest honest in
    let looked = looked_of old new_disk (upgrade_calls (length c.args.target.now)) c.in-Err.fault.number c.if-fault-eq-DEVICE.false c.in-Err.ensures.refused in
    subst (λ (h : Held). IsOf new_disk h (carried_of (view_of j))) (sym c.in-Err.ensures.stays) (of_kept old new_disk j.held (carried_of (view_of j)) plain (looked.kept honest) (c.self.invariant was works))))

pub returns-in-Err-clause-err : goal.returns-in-Err-clause-err
returns-in-Err-clause-err g c =
    let j = c.self.inside in
    let calls = upgrade_calls (length c.args.target.now) in
    let works = (ap (λ (v : JournalView g.row.D.Denot). v.broken) c.self.view_is ∙ sym c.is_broken.ensures.broken ∙ c.if-is_broken.false) in
    let room = subst (λ (h : Held). HasRoom h j.copied) (sym c.in-Err.ensures.stays) j.room in
    let new = after {G = g.D.SectorDevice} c.upgrade.new.device c.upgrade.new.held c.break_off.new.broken j.copied c.upgrade.ensures.formed room in
    rw (← c.self.view_is)
    (inr (inr (inr (
      c.break_off.ensures.number,
      upgrade_halted j new calls c.in-Err.fault.number c.if-fault-eq-DEVICE.true c.in-Err.ensures.stays works c.break_off.ensures.broken
          (λ honest. let was = c.upgrade.ensures.same.honest honest in (c.in-Err.ensures.tried (carried_of (view_of j)) honest (c.self.invariant was works)).stays) c.in-Err.ensures.refused,
    ))))

pub returns-in-Err-clause-kept : goal.returns-in-Err-clause-kept
returns-in-Err-clause-kept g c =
    let j = c.self.inside in
    let room = subst (λ (h : Held). HasRoom h j.copied) (sym c.in-Err.ensures.stays) j.room in
    let new = after {G = g.D.SectorDevice} c.upgrade.new.device c.upgrade.new.held c.break_off.new.broken j.copied c.upgrade.ensures.formed room in
    kept_of new (g.met.D.SectorDevice.coherent c.upgrade.new.device) (g.met.D.SectorDevice.torn_coherent c.upgrade.new.device) (λ honest works. absurd (cc (works, c.break_off.ensures.broken)))
