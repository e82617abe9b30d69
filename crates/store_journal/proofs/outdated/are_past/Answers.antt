use Rattle.std.proofs.Common.{◌≡◌, ℕ, length, sym, subst, true}
use Rattle.commit_slots.specs.Finding.{IsFoundIn}
use Rattle.half_journal.specs.Layout.{IsOf}
use Rattle.store_journal.specs.Layout.{IsSized}
use Rattle.store_journal.proofs.First.{is_past_if, none_is_past}
use Rattle.store_journal.proofs.outdated.are_past.Goals as goal

pub returns-in-None-clause-past : goal.returns-in-None-clause-past
returns-in-None-clause-past g c = λ honest of fits names.
    let seen = (g.D.SectorDevice.disk c.args.device.now).seen in
    let found = c.in-Ok.ensures.found honest in
    ((λ is. absurd (cc is)), (λ out. absurd (none_is_past seen (subst (IsFoundIn seen) c.in-None.is found.counted) out)))

pub returns-in-Some-clause-past : goal.returns-in-Some-clause-past
returns-in-Some-clause-past g c = λ honest of fits names.
    let old = g.D.SectorDevice.disk c.args.device.now in
    let coherent = g.met.D.SectorDevice.coherent c.args.device.now (c.find.ensures.same.honest honest) in
    let wide : old.sectors ≡ length old.seen = sym (coherent.shape old.seen coherent.seen).count in
    let found = c.in-Ok.ensures.found honest in
    is_past_if old.seen c.args.commit c.in-Some.counted c.is_past.result (subst (IsSized true) wide c.requires.sized) (subst (λ (n : ℕ). IsOf n c.args.commit) wide of) fits names (subst (IsFoundIn old.seen) c.in-Some.is found.counted) (rw c.in-Some.is at c.is_past.ensures)
