use Rattle.std.proofs.Common.{◌≡◌, false, inl, length, take, refl, sym, ap, subst, ◌∙◌, arith}
use Rattle.store_journal.specs.Carries.{replaced}
use Rattle.store_journal.specs.Fields.{view_of}
use Rattle.store_journal.specs.Held.{numbers_of}
use Rattle.store_journal.specs.JournalView.{JournalView, carried_of}
use Rattle.store_journal.specs.Writes.{switch_calls}
use Rattle.store_journal.proofs.Lifts.{formed_by, kept_of}
use Rattle.store_journal.proofs.Seen.{reads_of}
use Rattle.store_journal.proofs.Steps.{after, became, broke, room_after, room_same, sound_after, unmoved}
use Rattle.store_journal.proofs.journal.Journal.replace.Goals as goal

pub returns-then-not-has_number-clause-any_moment : goal.returns-then-not-has_number-clause-any_moment
returns-then-not-has_number-clause-any_moment g c = λ honest works.
    let j = c.self.inside in
    let at_view = subst (λ (v : JournalView g.row.D.Denot). ((g.D.SectorDevice.disk v.device).honest → (g.D.SectorDevice.disk j.device).honest)) c.self.view_is (λ h. h) in
    let old_works = subst (λ (v : JournalView g.row.D.Denot). v.broken ≡ false) (sym c.self.view_is) works in
    unmoved j c.args.self.now _ c.self.view_is (g.met.D.SectorDevice.coherent j.device (at_view honest)) (g.met.D.SectorDevice.torn_coherent j.device (at_view honest)) (c.self.invariant (at_view honest) old_works)

pub switch-requires-clause-formed : goal.switch-requires-clause-formed
switch-requires-clause-formed g c = formed_by c.self.inside

pub invariant_of-self : goal.invariant_of-self
invariant_of-self g c =
    let j = c.self.inside in
    let new = after {G = g.D.SectorDevice} c.switch.new.device c.switch.new.held j.broken 0 c.switch.ensures.formed (room_after j.held c.switch.new.held 0 _ _ _ _ _ _ c.in-Ok.ensures.numbers (omega arith)) in
    sound_after new (replaced (carried_of (view_of j)) c.args.target.now c.args.adds) g.met.D.SectorDevice.coherent g.met.D.SectorDevice.torn_coherent
    (λ honest works. let was = c.switch.ensures.same.honest.1 honest in (c.in-Ok.ensures.tried (carried_of (view_of j)) j.copied was (c.self.invariant was works) (subst (λ (v : JournalView g.row.D.Denot). (g.D.SectorDevice.disk v.device).honest → v.broken ≡ false → take (length c.args.target.now) v.copied ≡ c.args.target.now) (sym c.self.view_is) c.requires.copied was works)).done)

pub returns-in-Ok-clause-kept : goal.returns-in-Ok-clause-kept
returns-in-Ok-clause-kept g c =
    let j = c.self.inside in
    let new = after {G = g.D.SectorDevice} c.switch.new.device c.switch.new.held j.broken 0 c.switch.ensures.formed (room_after j.held c.switch.new.held 0 _ _ _ _ _ _ c.in-Ok.ensures.numbers (omega arith)) in
    kept_of new (g.met.D.SectorDevice.coherent c.switch.new.device) (g.met.D.SectorDevice.torn_coherent c.switch.new.device) (invariant_of-self g c)

pub returns-in-Ok-clause-ok : goal.returns-in-Ok-clause-ok
returns-in-Ok-clause-ok g c =
    let j = c.self.inside in
    let old = g.D.SectorDevice.disk j.device in
    let new_disk = g.D.SectorDevice.disk c.switch.new.device in
    let works = (ap (λ (v : JournalView g.row.D.Denot). v.broken) c.self.view_is ∙ sym c.is_broken.ensures.broken ∙ c.if-is_broken.false) in
    let new = after {G = g.D.SectorDevice} c.switch.new.device c.switch.new.held j.broken 0 c.switch.ensures.formed (room_after j.held c.switch.new.held 0 _ _ _ _ _ _ c.in-Ok.ensures.numbers (omega arith)) in
    let next = replaced (carried_of (view_of j)) c.args.target.now c.args.adds in
    rw (← c.self.view_is)
    (record {
      worked = works;
      became = (became j new next (length c.args.target.now) (length c.args.target.now) (switch_calls (numbers_of j.held).rides (length c.args.target.now)) (numbers_of c.switch.new.held).blocks
          c.in-Ok.ensures.numbers refl refl refl works
          (λ honest.
          let now = c.switch.ensures.same.honest.0 honest in
          reads_of new_disk (g.met.D.SectorDevice.coherent c.switch.new.device now) (g.met.D.SectorDevice.torn_coherent c.switch.new.device now) c.switch.new.held next c.switch.ensures.formed
          (c.in-Ok.ensures.tried (carried_of (view_of j)) j.copied honest (c.self.invariant honest works) (subst (λ (v : JournalView g.row.D.Denot). (g.D.SectorDevice.disk v.device).honest → v.broken ≡ false → take (length c.args.target.now) v.copied ≡ c.args.target.now) (sym c.self.view_is) c.requires.copied honest works)).done)
          c.in-Ok.ensures.charges);
      copied = refl;
    })

pub returns-in-Err-clause-err : goal.returns-in-Err-clause-err
returns-in-Err-clause-err g c =
    let j = c.self.inside in
    let old = g.D.SectorDevice.disk j.device in
    let new_disk = g.D.SectorDevice.disk c.switch.new.device in
    let works = (ap (λ (v : JournalView g.row.D.Denot). v.broken) c.self.view_is ∙ sym c.is_broken.ensures.broken ∙ c.if-is_broken.false) in
    let new = after {G = g.D.SectorDevice} c.switch.new.device c.switch.new.held c.break_off.new.broken j.copied c.switch.ensures.formed (room_same j.held c.switch.new.held j.copied c.in-Err.ensures.stays j.room) in
    rw (← c.self.view_is)
    (inl (
      c.break_off.ensures.number,
      broke j new (switch_calls (numbers_of j.held).rides (length c.args.target.now)) c.break_off.ensures.broken c.in-Err.ensures.stays (λ honest. (c.in-Err.ensures.tried (carried_of (view_of j)) j.copied honest (c.self.invariant honest works) (subst (λ (v : JournalView g.row.D.Denot). (g.D.SectorDevice.disk v.device).honest → v.broken ≡ false → take (length c.args.target.now) v.copied ≡ c.args.target.now) (sym c.self.view_is) c.requires.copied honest works)).stays)
          c.in-Err.ensures.charges,
    ))

pub returns-in-Err-clause-kept : goal.returns-in-Err-clause-kept
returns-in-Err-clause-kept g c =
    let j = c.self.inside in
    let new = after {G = g.D.SectorDevice} c.switch.new.device c.switch.new.held c.break_off.new.broken j.copied c.switch.ensures.formed (room_same j.held c.switch.new.held j.copied c.in-Err.ensures.stays j.room) in
    kept_of new (g.met.D.SectorDevice.coherent c.switch.new.device) (g.met.D.SectorDevice.torn_coherent c.switch.new.device) (λ honest works. absurd (cc (works, c.break_off.ensures.broken)))

pub returns-in-Ok-clause-any_moment : goal.returns-in-Ok-clause-any_moment
returns-in-Ok-clause-any_moment g c =
    let j = c.self.inside in
    let copied = subst (λ (v : JournalView g.row.D.Denot). (g.D.SectorDevice.disk v.device).honest → v.broken ≡ false → take (length c.args.target.now) v.copied ≡ c.args.target.now) (sym c.self.view_is) c.requires.copied in
    rw (← c.self.view_is) (λ honest works. (c.switch.ensures.tried (carried_of (view_of j)) j.copied honest (c.self.invariant honest works) (copied honest works)).any_moment)

pub returns-in-Err-clause-any_moment : goal.returns-in-Err-clause-any_moment
returns-in-Err-clause-any_moment g c =
    let j = c.self.inside in
    let copied = subst (λ (v : JournalView g.row.D.Denot). (g.D.SectorDevice.disk v.device).honest → v.broken ≡ false → take (length c.args.target.now) v.copied ≡ c.args.target.now) (sym c.self.view_is) c.requires.copied in
    rw (← c.self.view_is) (λ honest works. (c.switch.ensures.tried (carried_of (view_of j)) j.copied honest (c.self.invariant honest works) (copied honest works)).any_moment)
