use Rattle.std.proofs.Common.{◌≡◌, ℕ, ◌+◌, ◌-◌, ap, arith}
use Rattle.slot_journal.proofs.Larges.{starts_even}
use Rattle.slot_journal.proofs.Switched.{copy_aside}
use Rattle.slot_journal.proofs.switching.write_copy.Goals as goal

pub returns-clause-stands : goal.returns-clause-stands
returns-clause-stands g c = λ torn state honest knows stands.
    let old = g.D.SectorDevice.disk c.args.device.now in
    let known = c.args.known.now in
    let aside = copy_aside known state knows old.sectors c.requires.formed _ c.args.place c.args.count (ap (λ (n : ℕ). n + c.args.place) c.block_start-start.ensures) c.requires.room in
    c.write_aside.ensures.stands torn known.slot.number state honest aside stands
