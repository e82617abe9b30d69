use Rattle.std.proofs.Common.{◌≡◌, ◌⊎◌, ◌≤◌, ◌↔◌, ◌∙◌, ℕ, [], Bool, IfOk, IsTrue, None, ap, get_or, sym, subst}
use Rattle.std.proofs.lemmas.Result.{IfErr-weaker, IfOk-weaker}
use Rattle.sector_device.specs.Charges.{Failed, Made}
use Rattle.sector_device.specs.Disk.{Image}
use Rattle.half_journal.specs.Layout.{IsOf}
use Rattle.slot_commits.proofs.Copies.{coherent_by}
use Rattle.slot_commits.proofs.Puts.{keeps_none}
use Rattle.refusals.specs.declared.numbers.TheConstants.{DEVICE, MEMORY}
use Rattle.store_journal.specs.Outdated.{IsOutdated, OnlyLooked}
use Rattle.store_journal.specs.declared.fault.JournalFault.{JournalFault}
use Rattle.store_journal.proofs.First.{failed_more_looks, looked_more}
use Rattle.store_journal.proofs.outdated.is_outdated.Goals as goal

pub returns-then-not-is_sized-clause-keeps : goal.returns-then-not-is_sized-clause-keeps
returns-then-not-is_sized-clause-keeps g c = λ torn honest.
    let old = g.D.SectorDevice.disk c.args.device.now in
    keeps_none torn old (coherent_by torn old (g.met.D.SectorDevice.coherent c.args.device.now honest) (g.met.D.SectorDevice.torn_coherent c.args.device.now honest))

pub returns-in-Some-clause-looked : goal.returns-in-Some-clause-looked
returns-in-Some-clause-looked g c =
    let disk = g.D.SectorDevice.disk in
    let old = disk c.args.device.now in
    let mid = disk c.zeroth.new.device in
    let new = disk c.are_past.new.device in
    IfOk-weaker c.are_past.result (λ (past : Bool). (n : ℕ) × (n ≤ 128) × Made mid new n) (λ (past : Bool). OnlyLooked old new) (λ past more. looked_more old mid new c.in-Ok.ensures.charges more) c.are_past.ensures.looked

pub returns-in-Some-clause-outdated : goal.returns-in-Some-clause-outdated
returns-in-Some-clause-outdated g c = λ honest.
    let disk = g.D.SectorDevice.disk in
    let old = disk c.args.device.now in
    let mid = disk c.zeroth.new.device in
    let was = c.are_past.ensures.same.honest honest in
    let seen : mid.seen ≡ old.seen = (c.zeroth.ensures.keeps None was).seen in
    let some = c.in-Some.ensures.some in
    let of = subst (λ (n : ℕ). IsOf n c.in-Some.commit) (c.sectors-sectors.ensures ∙ sym c.zeroth.ensures.same.size) some.0 in
    let names = ap (λ (i : Image). get_or i 0 []) seen ∙ sym (c.in-Ok.ensures.sector was) ∙ some.2 in
    subst (λ (i : Image). IfOk c.are_past.result (λ outdated. IsTrue outdated ↔ IsOutdated i)) seen (c.are_past.ensures.past honest of some.1 names)

pub returns-in-Some-clause-err : goal.returns-in-Some-clause-err
returns-in-Some-clause-err g c =
    let disk = g.D.SectorDevice.disk in
    let old = disk c.args.device.now in
    let mid = disk c.zeroth.new.device in
    let new = disk c.are_past.new.device in
    IfErr-weaker c.are_past.result (λ (fault : JournalFault). ((fault.number ≡ DEVICE) × Failed mid new 128) ⊎ ((fault.number ≡ MEMORY) × ((n : ℕ) × (n ≤ 128) × Made mid new n)))
    (λ (fault : JournalFault). ((fault.number ≡ DEVICE) × Failed old new 129) ⊎ ((fault.number ≡ MEMORY) × OnlyLooked old new)) (λ fault. failed_more_looks old mid new fault.number c.in-Ok.ensures.charges) c.are_past.ensures.err
