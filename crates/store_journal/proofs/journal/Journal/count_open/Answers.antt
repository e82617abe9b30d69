use Rattle.std.proofs.Common.{◌≡◌, ℕ, false, inl, length, refl, sym, ap, subst, ◌∙◌}
use Rattle.sector_device.specs.Charges.{Failed, Made}
use Rattle.store_journal.specs.Carries.{counted}
use Rattle.store_journal.specs.Fields.{view_of}
use Rattle.store_journal.specs.Held.{numbers_of}
use Rattle.store_journal.specs.JournalView.{JournalView, carried_of}
use Rattle.store_journal.specs.Writes.{count_calls}
use Rattle.store_journal.proofs.Lifts.{formed_by, kept_of, used_is}
use Rattle.store_journal.proofs.Seen.{reads_of}
use Rattle.store_journal.proofs.Steps.{after, became, broke, room_after, room_same, sound_after, unmoved}
use Rattle.store_journal.proofs.journal.Journal.count_open.Goals as goal

pub returns-then-not-has_number-clause-any_moment : goal.returns-then-not-has_number-clause-any_moment
returns-then-not-has_number-clause-any_moment g c = λ honest works.
    let j = c.self.inside in
    let at_view = subst (λ (v : JournalView g.row.D.Denot). ((g.D.SectorDevice.disk v.device).honest → (g.D.SectorDevice.disk j.device).honest)) c.self.view_is (λ h. h) in
    let old_works = subst (λ (v : JournalView g.row.D.Denot). v.broken ≡ false) (sym c.self.view_is) works in
    unmoved j c.args.self.now _ c.self.view_is (g.met.D.SectorDevice.coherent j.device (at_view honest)) (g.met.D.SectorDevice.torn_coherent j.device (at_view honest)) (c.self.invariant (at_view honest) old_works)

pub count_open-requires-clause-formed : goal.count_open-requires-clause-formed
count_open-requires-clause-formed g c = formed_by c.self.inside

pub invariant_of-self : goal.invariant_of-self
invariant_of-self g c =
    let j = c.self.inside in
    let new = after {G = g.D.SectorDevice} c.count_open.new.device c.count_open.new.held j.broken j.copied c.count_open.ensures.formed (room_after j.held c.count_open.new.held j.copied _ _ _ _ _ _ c.in-Ok.ensures.numbers j.room.fits) in
    sound_after new (counted (carried_of (view_of j))) g.met.D.SectorDevice.coherent g.met.D.SectorDevice.torn_coherent
    (λ honest works. let was = c.count_open.ensures.same.honest.1 honest in (c.in-Ok.ensures.tried (carried_of (view_of j)) was (c.self.invariant was works)).done)

pub returns-in-Ok-clause-kept : goal.returns-in-Ok-clause-kept
returns-in-Ok-clause-kept g c =
    let j = c.self.inside in
    let new = after {G = g.D.SectorDevice} c.count_open.new.device c.count_open.new.held j.broken j.copied c.count_open.ensures.formed (room_after j.held c.count_open.new.held j.copied _ _ _ _ _ _ c.in-Ok.ensures.numbers j.room.fits) in
    kept_of new (g.met.D.SectorDevice.coherent c.count_open.new.device) (g.met.D.SectorDevice.torn_coherent c.count_open.new.device) (invariant_of-self g c)

pub returns-in-Ok-clause-ok : goal.returns-in-Ok-clause-ok
returns-in-Ok-clause-ok g c =
    let j = c.self.inside in
    let old = g.D.SectorDevice.disk j.device in
    let new_disk = g.D.SectorDevice.disk c.count_open.new.device in
    let works = (ap (λ (v : JournalView g.row.D.Denot). v.broken) c.self.view_is ∙ sym c.is_broken.ensures.broken ∙ c.if-is_broken.false) in
    let new = after {G = g.D.SectorDevice} c.count_open.new.device c.count_open.new.held j.broken j.copied c.count_open.ensures.formed (room_after j.held c.count_open.new.held j.copied _ _ _ _ _ _ c.in-Ok.ensures.numbers j.room.fits) in
    let next = counted (carried_of (view_of j)) in
    rw (← c.self.view_is)
    (record {
      worked = works;
      became = (became j new next ((numbers_of j.held).used) (length (view_of j).bytes) (count_calls (numbers_of j.held).rides (numbers_of j.held).settled (length (view_of j).bytes) (numbers_of j.held).blocks) (numbers_of c.count_open.new.held).blocks
          c.in-Ok.ensures.numbers (ap (λ (n : ℕ). n) (sym (used_is j))) refl refl works
          (λ honest.
          let now = c.count_open.ensures.same.honest.0 honest in
          reads_of new_disk (g.met.D.SectorDevice.coherent c.count_open.new.device now) (g.met.D.SectorDevice.torn_coherent c.count_open.new.device now) c.count_open.new.held next c.count_open.ensures.formed
          (c.in-Ok.ensures.tried (carried_of (view_of j)) honest (c.self.invariant honest works)).done)
          (subst (λ (n : ℕ). Made old new_disk (count_calls (numbers_of j.held).rides (numbers_of j.held).settled n (numbers_of j.held).blocks)) (sym (used_is j)) c.in-Ok.ensures.charges));
    })

pub returns-in-Err-clause-err : goal.returns-in-Err-clause-err
returns-in-Err-clause-err g c =
    let j = c.self.inside in
    let old = g.D.SectorDevice.disk j.device in
    let new_disk = g.D.SectorDevice.disk c.count_open.new.device in
    let works = (ap (λ (v : JournalView g.row.D.Denot). v.broken) c.self.view_is ∙ sym c.is_broken.ensures.broken ∙ c.if-is_broken.false) in
    let new = after {G = g.D.SectorDevice} c.count_open.new.device c.count_open.new.held c.break_off.new.broken j.copied c.count_open.ensures.formed (room_same j.held c.count_open.new.held j.copied c.in-Err.ensures.stays j.room) in
    rw (← c.self.view_is)
    (inl (
      c.break_off.ensures.number,
      broke j new (count_calls (numbers_of j.held).rides (numbers_of j.held).settled (length (view_of j).bytes) (numbers_of j.held).blocks) c.break_off.ensures.broken c.in-Err.ensures.stays (λ honest. (c.in-Err.ensures.tried (carried_of (view_of j)) honest (c.self.invariant honest works)).stays)
          (subst (λ (n : ℕ). Failed old new_disk (count_calls (numbers_of j.held).rides (numbers_of j.held).settled n (numbers_of j.held).blocks)) (sym (used_is j)) c.in-Err.ensures.charges),
    ))

pub returns-in-Err-clause-kept : goal.returns-in-Err-clause-kept
returns-in-Err-clause-kept g c =
    let j = c.self.inside in
    let new = after {G = g.D.SectorDevice} c.count_open.new.device c.count_open.new.held c.break_off.new.broken j.copied c.count_open.ensures.formed (room_same j.held c.count_open.new.held j.copied c.in-Err.ensures.stays j.room) in
    kept_of new (g.met.D.SectorDevice.coherent c.count_open.new.device) (g.met.D.SectorDevice.torn_coherent c.count_open.new.device) (λ honest works. absurd (cc (works, c.break_off.ensures.broken)))
