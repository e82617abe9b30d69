use Rattle.std.proofs.Common.{◌≡◌, ◌+◌, ◌≤◌, ℕ, inl, length, false, refl, sym, ap, subst, ◌∙◌}
use Rattle.sector_device.specs.Charges.{Failed, Made}
use Rattle.store_journal.specs.Carries.{appended}
use Rattle.store_journal.specs.Fields.{view_of}
use Rattle.store_journal.specs.Held.{numbers_of}
use Rattle.store_journal.specs.JournalView.{JournalView, carried_of}
use Rattle.store_journal.specs.Layout.{capacity_of}
use Rattle.store_journal.specs.Writes.{append_calls}
use Rattle.store_journal.proofs.Lifts.{formed_by, kept_of, used_is}
use Rattle.store_journal.proofs.Seen.{reads_of}
use Rattle.store_journal.proofs.Steps.{after, became, broke, room_after, room_same, sound_after, unmoved}
use Rattle.store_journal.proofs.journal.Journal.append.Goals as goal

pub returns-then-not-fits-clause-any_moment : goal.returns-then-not-fits-clause-any_moment
returns-then-not-fits-clause-any_moment g c = λ honest works.
    let j = c.self.inside in
    let at_view = subst (λ (v : JournalView g.row.D.Denot). ((g.D.SectorDevice.disk v.device).honest → (g.D.SectorDevice.disk j.device).honest)) c.self.view_is (λ h. h) in
    let old_works = subst (λ (v : JournalView g.row.D.Denot). v.broken ≡ false) (sym c.self.view_is) works in
    unmoved j c.args.self.now _ c.self.view_is (g.met.D.SectorDevice.coherent j.device (at_view honest)) (g.met.D.SectorDevice.torn_coherent j.device (at_view honest)) (c.self.invariant (at_view honest) old_works)

pub returns-then-adds-seq-clause-any_moment : goal.returns-then-adds-seq-clause-any_moment
returns-then-adds-seq-clause-any_moment g c = λ honest works.
    let j = c.self.inside in
    let at_view = subst (λ (v : JournalView g.row.D.Denot). ((g.D.SectorDevice.disk v.device).honest → (g.D.SectorDevice.disk j.device).honest)) c.self.view_is (λ h. h) in
    let old_works = subst (λ (v : JournalView g.row.D.Denot). v.broken ≡ false) (sym c.self.view_is) works in
    unmoved j c.args.self.now _ c.self.view_is (g.met.D.SectorDevice.coherent j.device (at_view honest)) (g.met.D.SectorDevice.torn_coherent j.device (at_view honest)) (c.self.invariant (at_view honest) old_works)

pub append-requires-clause-formed : goal.append-requires-clause-formed
append-requires-clause-formed g c = formed_by c.self.inside

pub append-requires-clause-fits : goal.append-requires-clause-fits
append-requires-clause-fits g c =
    let j = c.self.inside in
    let fits = subst (λ (v : JournalView g.row.D.Denot). length v.bytes + length c.args.bytes.now ≤ capacity_of v.rides v.sectors) (sym c.self.view_is) (c.if-not-fits.ensures.0 refl) in
    subst (λ (n : ℕ). n + length c.args.bytes.now ≤ capacity_of (numbers_of j.held).rides (numbers_of j.held).sectors) (used_is j) fits

pub invariant_of-self : goal.invariant_of-self
invariant_of-self g c =
    let j = c.self.inside in
    let new = after {G = g.D.SectorDevice} c.append.new.device c.append.new.held j.broken j.copied c.append.ensures.formed (room_after j.held c.append.new.held j.copied _ _ _ _ _ _ c.in-Ok.ensures.numbers j.room.fits) in
    sound_after new (appended (carried_of (view_of j)) c.args.bytes.now c.args.adds) g.met.D.SectorDevice.coherent g.met.D.SectorDevice.torn_coherent
    (λ honest works. let was = c.append.ensures.same.honest.1 honest in (c.in-Ok.ensures.tried (carried_of (view_of j)) was (c.self.invariant was works)).done)

pub returns-in-Ok-clause-kept : goal.returns-in-Ok-clause-kept
returns-in-Ok-clause-kept g c =
    let j = c.self.inside in
    let new = after {G = g.D.SectorDevice} c.append.new.device c.append.new.held j.broken j.copied c.append.ensures.formed (room_after j.held c.append.new.held j.copied _ _ _ _ _ _ c.in-Ok.ensures.numbers j.room.fits) in
    kept_of new (g.met.D.SectorDevice.coherent c.append.new.device) (g.met.D.SectorDevice.torn_coherent c.append.new.device) (invariant_of-self g c)

pub returns-in-Ok-clause-ok : goal.returns-in-Ok-clause-ok
returns-in-Ok-clause-ok g c =
    let j = c.self.inside in
    let works = (ap (λ (v : JournalView g.row.D.Denot). v.broken) c.self.view_is ∙ sym c.is_broken.ensures.broken ∙ c.if-is_broken.false) in
    let old = g.D.SectorDevice.disk j.device in
    let new_disk = g.D.SectorDevice.disk c.append.new.device in
    let new = after {G = g.D.SectorDevice} c.append.new.device c.append.new.held j.broken j.copied c.append.ensures.formed (room_after j.held c.append.new.held j.copied _ _ _ _ _ _ c.in-Ok.ensures.numbers j.room.fits) in
    let next = appended (carried_of (view_of j)) c.args.bytes.now c.args.adds in
    let more = length c.args.bytes.now in
    rw (← c.self.view_is)
    (became j new next ((numbers_of j.held).used + more) (length (view_of j).bytes + more) (append_calls (numbers_of j.held).rides (length (view_of j).bytes) more) (numbers_of c.append.new.held).blocks
    c.in-Ok.ensures.numbers (ap (λ (n : ℕ). n + more) (sym (used_is j))) refl refl works
    (λ honest.
    let now = c.append.ensures.same.honest.0 honest in
    reads_of new_disk (g.met.D.SectorDevice.coherent c.append.new.device now) (g.met.D.SectorDevice.torn_coherent c.append.new.device now) c.append.new.held next c.append.ensures.formed
    (c.in-Ok.ensures.tried (carried_of (view_of j)) honest (c.self.invariant honest works)).done)
    (subst (λ (n : ℕ). Made old new_disk (append_calls (numbers_of j.held).rides n more)) (sym (used_is j)) c.in-Ok.ensures.charges))

pub returns-in-Err-clause-err : goal.returns-in-Err-clause-err
returns-in-Err-clause-err g c =
    let j = c.self.inside in
    let works = (ap (λ (v : JournalView g.row.D.Denot). v.broken) c.self.view_is ∙ sym c.is_broken.ensures.broken ∙ c.if-is_broken.false) in
    let old = g.D.SectorDevice.disk j.device in
    let new_disk = g.D.SectorDevice.disk c.append.new.device in
    let new = after {G = g.D.SectorDevice} c.append.new.device c.append.new.held c.break_off.new.broken j.copied c.append.ensures.formed (room_same j.held c.append.new.held j.copied c.in-Err.ensures.stays j.room) in
    let more = length c.args.bytes.now in
    rw (← c.self.view_is)
    (inl (
      c.break_off.ensures.number,
      broke j new (append_calls (numbers_of j.held).rides (length (view_of j).bytes) more) c.break_off.ensures.broken c.in-Err.ensures.stays (λ honest. (c.in-Err.ensures.tried (carried_of (view_of j)) honest (c.self.invariant honest works)).stays)
          (subst (λ (n : ℕ). Failed old new_disk (append_calls (numbers_of j.held).rides n more)) (sym (used_is j)) c.in-Err.ensures.charges),
    ))

pub returns-in-Err-clause-kept : goal.returns-in-Err-clause-kept
returns-in-Err-clause-kept g c =
    let j = c.self.inside in
    let new = after {G = g.D.SectorDevice} c.append.new.device c.append.new.held c.break_off.new.broken j.copied c.append.ensures.formed (room_same j.held c.append.new.held j.copied c.in-Err.ensures.stays j.room) in
    kept_of new (g.met.D.SectorDevice.coherent c.append.new.device) (g.met.D.SectorDevice.torn_coherent c.append.new.device) (λ honest works. absurd (cc (works, c.break_off.ensures.broken)))
