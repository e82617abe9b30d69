use Rattle.std.proofs.Common.{◌≡◌, ◌+◌, ◌-◌, ◌*◌, ◌/◌, ◌≤◌, ℕ, List, true, inl, length, take, drop, refl, sym, ap, subst, ◌∙◌, arith}
use Rattle.std.proofs.lemmas.List.{take_rest}
use Rattle.sector_device.specs.Charges.{Failed, Made}
use Rattle.sector_device.specs.Sectors.{Over, SectorsHold}
use Rattle.half_journal.proofs.Views.{begun_at, length_read}
use Rattle.store_journal.specs.Fields.{view_of}
use Rattle.store_journal.specs.Held.{HasRoom, IsFormed, numbers_of}
use Rattle.store_journal.specs.JournalView.{JournalView, carried_of}
use Rattle.store_journal.specs.Layout.{capacity_of, half_start}
use Rattle.store_journal.specs.Writes.{step_count}
use Rattle.store_journal.proofs.Copying.{stepped}
use Rattle.store_journal.proofs.Lifts.{formed_by, kept_of, kept_view}
use Rattle.store_journal.proofs.Seen.{reads_of}
use Rattle.store_journal.proofs.Steps.{after, broke, sound_after, stays}
use Rattle.store_journal.proofs.journal.Journal.copy_step.Goals as goal

pub returns-then-self-clause-kept : goal.returns-then-self-clause-kept
returns-then-self-clause-kept g c = kept_view c.self.inside c.args.self.now g.met.D.SectorDevice.coherent g.met.D.SectorDevice.torn_coherent c.self.view_is c.self.invariant

pub write_copy-requires-clause-formed : goal.write_copy-requires-clause-formed
write_copy-requires-clause-formed g c = formed_by c.self.inside

pub write_copy-requires-clause-room : goal.write_copy-requires-clause-room
write_copy-requires-clause-room g c =
    let j = c.self.inside in
    let fits : length c.args.target.now ≤ capacity_of (numbers_of j.held).rides (numbers_of j.held).sectors = subst (λ (v : JournalView g.row.D.Denot). length c.args.target.now ≤ capacity_of v.rides v.sectors) (sym c.self.view_is) c.requires.fits in
    omega (arith, c.min-count.ensures, fits, c.requires.from)

-- ---- written

pub invariant_of-self : goal.invariant_of-self
invariant_of-self g c =
    let j = c.self.inside in
    let old = g.D.SectorDevice.disk j.device in
    let new_disk = g.D.SectorDevice.disk c.write_copy.new.device in
    let same = c.write_copy.ensures.same in
    let formed : IsFormed new_disk.sectors j.held = subst (λ (n : ℕ). IsFormed n j.held) (sym same.size) (formed_by j) in
    let settled : (numbers_of j.held).settled ≡ true = ap (λ (v : JournalView g.row.D.Denot). v.settled) c.self.view_is ∙ c.requires.settled in
    let fits : length c.args.target.now ≤ capacity_of (numbers_of j.held).rides (numbers_of j.held).sectors = subst (λ (v : JournalView g.row.D.Denot). length c.args.target.now ≤ capacity_of v.rides v.sectors) (sym c.self.view_is) c.requires.fits in
    let room : HasRoom j.held c.min-self-inside.result = record { fits = omega (arith, c.min-self-inside.ensures, fits); none = λ is. absurd (cc (is, settled)) } in
    let new = after {G = g.D.SectorDevice} c.write_copy.new.device j.held j.broken c.min-self-inside.result formed room in
    sound_after new (carried_of (view_of j)) g.met.D.SectorDevice.coherent g.met.D.SectorDevice.torn_coherent
    (λ honest works. let was = same.honest.1 honest in c.write_copy.ensures.still (carried_of (view_of j)) was (c.self.invariant was works))

pub returns-in-Ok-clause-ok : goal.returns-in-Ok-clause-ok
returns-in-Ok-clause-ok g c =
    let j = c.self.inside in
    let old = g.D.SectorDevice.disk j.device in
    let new_disk = g.D.SectorDevice.disk c.write_copy.new.device in
    let same = c.write_copy.ensures.same in
    let formed : IsFormed new_disk.sectors j.held = subst (λ (n : ℕ). IsFormed n j.held) (sym same.size) (formed_by j) in
    let settled : (numbers_of j.held).settled ≡ true = ap (λ (v : JournalView g.row.D.Denot). v.settled) c.self.view_is ∙ c.requires.settled in
    let fits : length c.args.target.now ≤ capacity_of (numbers_of j.held).rides (numbers_of j.held).sectors = subst (λ (v : JournalView g.row.D.Denot). length c.args.target.now ≤ capacity_of v.rides v.sectors) (sym c.self.view_is) c.requires.fits in
    let room : HasRoom j.held c.min-self-inside.result = record { fits = omega (arith, c.min-self-inside.ensures, fits); none = λ is. absurd (cc (is, settled)) } in
    let new = after {G = g.D.SectorDevice} c.write_copy.new.device j.held j.broken c.min-self-inside.result formed room in
    let target = c.args.target.now in
    let start = half_start (numbers_of j.held).rides (numbers_of j.held).sectors (1 - (numbers_of j.held).half) in
    let turned : c.args.from / 512 * 512 ≡ 512 * (c.args.from / 512) = omega arith in
    let rest_is = take_rest target (c.args.from / 512 * 512) ∙ ap (λ (n : ℕ). drop n target) turned in
    rw (← c.self.view_is)
    (record {
      worked = c.if-self.false;
      stays = stays j new refl
          (λ honest. let now = same.honest.0 honest in
          reads_of new_disk (g.met.D.SectorDevice.coherent c.write_copy.new.device now) (g.met.D.SectorDevice.torn_coherent c.write_copy.new.device now) j.held (carried_of (view_of j)) formed (c.write_copy.ensures.still (carried_of (view_of j)) honest (c.self.invariant honest c.if-self.false)));
      works = c.if-self.false;
      answer_is = omega (arith, c.min-self-inside.ensures, c.min-count.ensures);
      size = length_read new_disk.seen start c.min-self-inside.result;
      copied = λ honest begins.
          stepped old.seen new_disk.seen start (c.args.from / 512) c.min-count.result c.args.from c.min-self-inside.result target (omega arith) c.requires.from (omega (arith, c.min-self-inside.ensures))
          (begun_at old.seen start j.copied (take c.args.from target) begins)
          (subst (λ (l : List ℕ). Over (start + c.args.from / 512) c.min-count.result l old.seen new_disk.seen) rest_is (c.write_copy.ensures.seen honest))
          (subst (λ (l : List ℕ). SectorsHold new_disk.seen (start + c.args.from / 512) c.min-count.result l) rest_is (c.in-Ok.ensures.written honest));
      made = subst (Made old new_disk) c.min-count.ensures c.in-Ok.ensures.charges;
    })

pub returns-in-Ok-clause-any_moment : goal.returns-in-Ok-clause-any_moment
returns-in-Ok-clause-any_moment g c =
    let j = c.self.inside in
    rw (← c.self.view_is) (λ honest works. c.write_copy.ensures.carries (carried_of (view_of j)) honest (c.self.invariant honest works))

pub returns-in-Ok-clause-kept : goal.returns-in-Ok-clause-kept
returns-in-Ok-clause-kept g c =
    let j = c.self.inside in
    let old = g.D.SectorDevice.disk j.device in
    let new_disk = g.D.SectorDevice.disk c.write_copy.new.device in
    let same = c.write_copy.ensures.same in
    let formed : IsFormed new_disk.sectors j.held = subst (λ (n : ℕ). IsFormed n j.held) (sym same.size) (formed_by j) in
    let settled : (numbers_of j.held).settled ≡ true = ap (λ (v : JournalView g.row.D.Denot). v.settled) c.self.view_is ∙ c.requires.settled in
    let fits : length c.args.target.now ≤ capacity_of (numbers_of j.held).rides (numbers_of j.held).sectors = subst (λ (v : JournalView g.row.D.Denot). length c.args.target.now ≤ capacity_of v.rides v.sectors) (sym c.self.view_is) c.requires.fits in
    let room : HasRoom j.held c.min-self-inside.result = record { fits = omega (arith, c.min-self-inside.ensures, fits); none = λ is. absurd (cc (is, settled)) } in
    let new = after {G = g.D.SectorDevice} c.write_copy.new.device j.held j.broken c.min-self-inside.result formed room in
    kept_of new (g.met.D.SectorDevice.coherent c.write_copy.new.device) (g.met.D.SectorDevice.torn_coherent c.write_copy.new.device) (invariant_of-self g c)

-- ---- the device failed

pub returns-in-Err-clause-err : goal.returns-in-Err-clause-err
returns-in-Err-clause-err g c =
    let j = c.self.inside in
    let old = g.D.SectorDevice.disk j.device in
    let new_disk = g.D.SectorDevice.disk c.write_copy.new.device in
    let same = c.write_copy.ensures.same in
    let formed : IsFormed new_disk.sectors j.held = subst (λ (n : ℕ). IsFormed n j.held) (sym same.size) (formed_by j) in
    let new = after {G = g.D.SectorDevice} c.write_copy.new.device j.held c.break_off.new.broken j.copied formed j.room in
    rw (← c.self.view_is)
    (inl (
      c.break_off.ensures.number,
      broke j new (step_count (length c.args.target.now) c.args.from c.args.max) c.break_off.ensures.broken refl
          (λ honest. let now = same.honest.0 honest in
          reads_of new_disk (g.met.D.SectorDevice.coherent c.write_copy.new.device now) (g.met.D.SectorDevice.torn_coherent c.write_copy.new.device now) j.held (carried_of (view_of j)) formed (c.write_copy.ensures.still (carried_of (view_of j)) honest (c.self.invariant honest c.if-self.false)))
          (subst (Failed old new_disk) c.min-count.ensures c.in-Err.ensures.charges),
    ))

pub returns-in-Err-clause-any_moment : goal.returns-in-Err-clause-any_moment
returns-in-Err-clause-any_moment g c =
    let j = c.self.inside in
    rw (← c.self.view_is) (λ honest works. c.write_copy.ensures.carries (carried_of (view_of j)) honest (c.self.invariant honest works))

pub returns-in-Err-clause-kept : goal.returns-in-Err-clause-kept
returns-in-Err-clause-kept g c =
    let j = c.self.inside in
    let old = g.D.SectorDevice.disk j.device in
    let new_disk = g.D.SectorDevice.disk c.write_copy.new.device in
    let same = c.write_copy.ensures.same in
    let formed : IsFormed new_disk.sectors j.held = subst (λ (n : ℕ). IsFormed n j.held) (sym same.size) (formed_by j) in
    let new = after {G = g.D.SectorDevice} c.write_copy.new.device j.held c.break_off.new.broken j.copied formed j.room in
    kept_of new (g.met.D.SectorDevice.coherent c.write_copy.new.device) (g.met.D.SectorDevice.torn_coherent c.write_copy.new.device) (λ honest works. absurd (cc (works, c.break_off.ensures.broken)))
