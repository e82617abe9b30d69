use Rattle.std.proofs.Common.{◌+◌, inl, length, refl, sym, ap, ◌∙◌, arith}
use Rattle.sector_device.specs.Sectors.{sectors_of}
use Rattle.store_journal.specs.Carries.{migrated}
use Rattle.store_journal.specs.Fields.{view_of}
use Rattle.store_journal.specs.JournalView.{JournalView, carried_of}
use Rattle.store_journal.proofs.Lifts.{formed_by, kept_of}
use Rattle.store_journal.proofs.Seen.{reads_of}
use Rattle.store_journal.proofs.Steps.{after, became, broke, room_after, room_same, sound_after}
use Rattle.store_journal.proofs.journal.Journal.migrate.Goals as goal

pub migrate-requires-clause-formed : goal.migrate-requires-clause-formed
migrate-requires-clause-formed g c = formed_by c.self.inside

pub invariant_of-self : goal.invariant_of-self
invariant_of-self g c =
    let j = c.self.inside in
    let new = after {G = g.D.SectorDevice} c.migrate.new.device c.migrate.new.held j.broken 0 c.migrate.ensures.formed (room_after j.held c.migrate.new.held 0 _ _ _ _ _ _ c.in-Ok.ensures.numbers (omega arith)) in
    sound_after new (migrated (carried_of (view_of j)) c.args.target.now) g.met.D.SectorDevice.coherent g.met.D.SectorDevice.torn_coherent
    (λ honest works. let was = c.migrate.ensures.same.honest.1 honest in (c.in-Ok.ensures.tried (carried_of (view_of j)) was (c.self.invariant was works)).done)

pub returns-in-Ok-clause-kept : goal.returns-in-Ok-clause-kept
returns-in-Ok-clause-kept g c =
    let j = c.self.inside in
    let new = after {G = g.D.SectorDevice} c.migrate.new.device c.migrate.new.held j.broken 0 c.migrate.ensures.formed (room_after j.held c.migrate.new.held 0 _ _ _ _ _ _ c.in-Ok.ensures.numbers (omega arith)) in
    kept_of new (g.met.D.SectorDevice.coherent c.migrate.new.device) (g.met.D.SectorDevice.torn_coherent c.migrate.new.device) (invariant_of-self g c)

pub returns-in-Ok-clause-ok : goal.returns-in-Ok-clause-ok
returns-in-Ok-clause-ok g c =
    let j = c.self.inside in
    let old = g.D.SectorDevice.disk j.device in
    let new_disk = g.D.SectorDevice.disk c.migrate.new.device in
    let works = (ap (λ (v : JournalView g.row.D.Denot). v.broken) c.self.view_is ∙ sym c.is_broken.ensures.broken ∙ c.if-is_broken.false) in
    let new = after {G = g.D.SectorDevice} c.migrate.new.device c.migrate.new.held j.broken 0 c.migrate.ensures.formed (room_after j.held c.migrate.new.held 0 _ _ _ _ _ _ c.in-Ok.ensures.numbers (omega arith)) in
    let next = migrated (carried_of (view_of j)) c.args.target.now in
    rw (← c.self.view_is)
    (record {
      worked = works;
      became = (became j new next (length c.args.target.now) (length c.args.target.now) (sectors_of (length c.args.target.now) + 3) 0
          c.in-Ok.ensures.numbers refl (ap (λ (v : JournalView g.row.D.Denot). v.rides) c.self.view_is ∙ c.requires.plain) refl works
          (λ honest.
          let now = c.migrate.ensures.same.honest.0 honest in
          reads_of new_disk (g.met.D.SectorDevice.coherent c.migrate.new.device now) (g.met.D.SectorDevice.torn_coherent c.migrate.new.device now) c.migrate.new.held next c.migrate.ensures.formed
          (c.in-Ok.ensures.tried (carried_of (view_of j)) honest (c.self.invariant honest works)).done)
          c.in-Ok.ensures.charges);
      copied = refl;
    })

pub returns-in-Err-clause-err : goal.returns-in-Err-clause-err
returns-in-Err-clause-err g c =
    let j = c.self.inside in
    let old = g.D.SectorDevice.disk j.device in
    let new_disk = g.D.SectorDevice.disk c.migrate.new.device in
    let works = (ap (λ (v : JournalView g.row.D.Denot). v.broken) c.self.view_is ∙ sym c.is_broken.ensures.broken ∙ c.if-is_broken.false) in
    let new = after {G = g.D.SectorDevice} c.migrate.new.device c.migrate.new.held c.break_off.new.broken j.copied c.migrate.ensures.formed (room_same j.held c.migrate.new.held j.copied c.in-Err.ensures.stays j.room) in
    rw (← c.self.view_is)
    (inl (
      c.break_off.ensures.number,
      broke j new (sectors_of (length c.args.target.now) + 3) c.break_off.ensures.broken c.in-Err.ensures.stays (λ honest. (c.in-Err.ensures.tried (carried_of (view_of j)) honest (c.self.invariant honest works)).stays)
          c.in-Err.ensures.charges,
    ))

pub returns-in-Err-clause-kept : goal.returns-in-Err-clause-kept
returns-in-Err-clause-kept g c =
    let j = c.self.inside in
    let new = after {G = g.D.SectorDevice} c.migrate.new.device c.migrate.new.held c.break_off.new.broken j.copied c.migrate.ensures.formed (room_same j.held c.migrate.new.held j.copied c.in-Err.ensures.stays j.room) in
    kept_of new (g.met.D.SectorDevice.coherent c.migrate.new.device) (g.met.D.SectorDevice.torn_coherent c.migrate.new.device) (λ honest works. absurd (cc (works, c.break_off.ensures.broken)))
