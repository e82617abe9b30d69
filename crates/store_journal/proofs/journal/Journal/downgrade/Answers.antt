use Rattle.std.proofs.Common.{false, inl, length, refl, sym, ap, subst, ◌∙◌}
use Rattle.store_journal.specs.Carries.{turned}
use Rattle.store_journal.specs.Fields.{view_of}
use Rattle.store_journal.specs.Held.{numbers_of}
use Rattle.store_journal.specs.JournalView.{JournalView, carried_of}
use Rattle.store_journal.specs.Layout.{FitsBetween}
use Rattle.store_journal.specs.Writes.{downgrade_calls}
use Rattle.store_journal.proofs.Lifts.{formed_by, kept_of, used_is}
use Rattle.store_journal.proofs.Seen.{reads_of}
use Rattle.store_journal.proofs.Steps.{after, broke, none_copied, room_same, sound_after}
use Rattle.store_journal.proofs.Turns.{downgraded_to}
use Rattle.store_journal.proofs.journal.Journal.downgrade.Goals as goal

pub downgrade-requires-clause-formed : goal.downgrade-requires-clause-formed
downgrade-requires-clause-formed g c = formed_by c.self.inside

pub downgrade-requires-clause-between : goal.downgrade-requires-clause-between
downgrade-requires-clause-between g c =
    let j = c.self.inside in
    let between = subst (λ (v : JournalView g.row.D.Denot). FitsBetween v.sectors (length v.bytes)) (sym c.self.view_is) c.requires.between in
    subst (FitsBetween (numbers_of j.held).sectors) (used_is j) between

pub invariant_of-self : goal.invariant_of-self
invariant_of-self g c =
    let j = c.self.inside in
    let new = after {G = g.D.SectorDevice} c.downgrade.new.device c.downgrade.new.held j.broken 0 c.downgrade.ensures.formed (none_copied c.downgrade.new.held) in
    sound_after new (turned false 0 (carried_of (view_of j)) c.args.target.now) g.met.D.SectorDevice.coherent g.met.D.SectorDevice.torn_coherent
    (λ honest works. let was = c.downgrade.ensures.same.honest.1 honest in (c.in-Ok.ensures.tried (carried_of (view_of j)) was (c.self.invariant was works)).done)

pub returns-in-Ok-clause-kept : goal.returns-in-Ok-clause-kept
returns-in-Ok-clause-kept g c =
    let j = c.self.inside in
    let new = after {G = g.D.SectorDevice} c.downgrade.new.device c.downgrade.new.held j.broken 0 c.downgrade.ensures.formed (none_copied c.downgrade.new.held) in
    kept_of new (g.met.D.SectorDevice.coherent c.downgrade.new.device) (g.met.D.SectorDevice.torn_coherent c.downgrade.new.device) (invariant_of-self g c)

pub returns-in-Ok-clause-ok : goal.returns-in-Ok-clause-ok
returns-in-Ok-clause-ok g c =
    let j = c.self.inside in
    let target = c.args.target.now in
    let works = (ap (λ (v : JournalView g.row.D.Denot). v.broken) c.self.view_is ∙ sym c.is_broken.ensures.broken ∙ c.if-is_broken.false) in
    let new = after {G = g.D.SectorDevice} c.downgrade.new.device c.downgrade.new.held j.broken 0 c.downgrade.ensures.formed (none_copied c.downgrade.new.held) in
    rw (← c.self.view_is)
    (downgraded_to j new target c.in-Ok.ensures.numbers works works refl
    (λ honest.
    let now = c.downgrade.ensures.same.honest.0 honest in
    reads_of (g.D.SectorDevice.disk c.downgrade.new.device) (g.met.D.SectorDevice.coherent c.downgrade.new.device now) (g.met.D.SectorDevice.torn_coherent c.downgrade.new.device now) c.downgrade.new.held (turned false 0 (carried_of (view_of j)) target) c.downgrade.ensures.formed
    (c.in-Ok.ensures.tried (carried_of (view_of j)) honest (c.self.invariant honest works)).done)
    c.in-Ok.ensures.charges)

pub returns-in-Err-clause-err : goal.returns-in-Err-clause-err
returns-in-Err-clause-err g c =
    let j = c.self.inside in
    let works = (ap (λ (v : JournalView g.row.D.Denot). v.broken) c.self.view_is ∙ sym c.is_broken.ensures.broken ∙ c.if-is_broken.false) in
    let same = ap numbers_of c.in-Err.ensures.stays in
    let new = after {G = g.D.SectorDevice} c.downgrade.new.device c.downgrade.new.held c.break_off.new.broken j.copied c.downgrade.ensures.formed (room_same j.held c.downgrade.new.held j.copied same j.room) in
    rw (← c.self.view_is)
    (inl (
      c.break_off.ensures.number,
      broke j new (downgrade_calls (length c.args.target.now)) c.break_off.ensures.broken same (λ honest. (c.in-Err.ensures.tried (carried_of (view_of j)) honest (c.self.invariant honest works)).stays) c.in-Err.ensures.charges,
    ))

pub returns-in-Err-clause-kept : goal.returns-in-Err-clause-kept
returns-in-Err-clause-kept g c =
    let j = c.self.inside in
    let same = ap numbers_of c.in-Err.ensures.stays in
    let new = after {G = g.D.SectorDevice} c.downgrade.new.device c.downgrade.new.held c.break_off.new.broken j.copied c.downgrade.ensures.formed (room_same j.held c.downgrade.new.held j.copied same j.room) in
    kept_of new (g.met.D.SectorDevice.coherent c.downgrade.new.device) (g.met.D.SectorDevice.torn_coherent c.downgrade.new.device) (λ honest works. absurd (cc (works, c.break_off.ensures.broken)))
